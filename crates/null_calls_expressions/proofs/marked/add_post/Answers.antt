use Rattle.std.proofs.Common.{◌∙◌, ap}
use Rattle.null_calls_temporaries.specs.InstrumentedExpressions as marks
use Rattle.null_calls_expressions.proofs.ExprLemmas.{on_like}
use Rattle.null_calls_expressions.proofs.MarkedLemmas.{onto_one}
use Rattle.null_calls_expressions.proofs.marked.add_post.Goals as goal

pub returns : goal.returns
returns c =
    on_like c.add.result (onto_one c.args.list.now.items c.add.new.list.items c.in_ok-after.after _ (c.in_ok-after.ensures ∙ ap (λ n. marks.null_call c.args.at n c.args.site) c.in_ok-name.ensures)) c.add.ensures
