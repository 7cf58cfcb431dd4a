use Rattle.std.proofs.Common.{ap, ◌∙◌}
use Rattle.c_syntax.specs.View.{expr_of}
use Rattle.c_syntax.specs.Writes.{exprs_of}
use Rattle.null_calls_temporaries.specs.Sited.{type_where, called_of}
use Rattle.null_calls_temporaries.specs.InstrumentedExpressions as marks
use Rattle.null_calls_expressions.specs.Lists.{exprs_onto}
use Rattle.null_calls_expressions.proofs.MarkedLemmas.{marked_made}
use Rattle.null_calls_expressions.proofs.marked.marked_call.Goals as goal

pub returns : goal.returns
returns c =
    let d = expr_of c.args.designator in
    c.comma_node.ensures ∙ marked_made c.args.at c.args.site c.args.wanted (called_of c.args.called.now) d (expr_of c.in_ok-function.function) (expr_of c.in_ok-one.one) (expr_of c.in_ok-before.before)
    (exprs_of c.args.arguments.items) (exprs_of c.in_ok-passed.passed.items) c.add_designator.new.list.items c.add_arguments.new.list.items c.add.new.list.items c.add_call_and_post.new.list.items c.is_kept-kept.result
    (λ rest. c.in_ok-function.ensures.keeps rest ∙ ap (λ xs. exprs_onto xs (marks.keep_designator c.args.at c.args.site (type_where c.args.called.now.pointer_type) d rest)) c.new-list.ensures.items)
    c.in_ok-function.ensures.gives c.in_ok-passed.ensures.keeps c.in_ok-passed.ensures.gives
    (c.in_ok-before.ensures ∙ ap (λ n. marks.null_call c.args.at n c.args.site) c.in_ok-name.ensures) c.in_ok-add.ensures c.in_ok-one.ensures c.is_kept-kept.ensures c.in_ok-add_call_and_post.ensures
