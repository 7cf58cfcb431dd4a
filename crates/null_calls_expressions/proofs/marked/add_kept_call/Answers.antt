use Rattle.std.proofs.Common.{ap, ◌∙◌}
use Rattle.c_syntax.specs.Tree.{a_name, more_exprs}
use Rattle.c_syntax.specs.View.{expr_of}
use Rattle.null_calls_temporaries.specs.InstrumentedExpressions as marks
use Rattle.null_calls_expressions.specs.Lists.{exprs_onto}
use Rattle.null_calls_expressions.proofs.ExprLemmas.{on_like}
use Rattle.null_calls_expressions.proofs.MarkedLemmas.{post_wanted}
use Rattle.null_calls_expressions.proofs.marked.add_kept_call.Goals as goal

pub returns : goal.returns
returns c =
    let e = expr_of c.args.one in
    let old = c.args.list.now.items in
    on_like c.add.result (post_wanted c.args.at c.args.site e c.in_ok-value.value old c.add_kept.new.list.items c.add_post.new.list.items c.add.new.list.items
    (λ rest. c.in_ok-value.ensures.keeps rest ∙ ap (λ n. exprs_onto old (more_exprs (marks.kept_in c.args.at n e) rest)) c.in_ok-name.ensures) c.in_ok-add_post.ensures
    (c.in_ok-value.ensures.gives ∙ ap (a_name c.args.at) c.in_ok-again.ensures)) c.add.ensures
