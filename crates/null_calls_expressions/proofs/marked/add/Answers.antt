use Rattle.std.proofs.Common.{ap, ◌∙◌}
use Rattle.null_calls_expressions.specs.Lists.{exprs_onto}
use Rattle.null_calls_expressions.proofs.MarkedLemmas.{onto_more}
use Rattle.null_calls_expressions.proofs.marked.add.Goals as goal

pub returns : goal.returns
returns c rest = ap (λ xs. exprs_onto xs rest) c.in_ok-push.ensures.items ∙ onto_more c.args.list.now.items c.args.one rest
