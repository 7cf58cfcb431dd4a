use Rattle.std.proofs.Common.{take}
use Rattle.flow_model.specs.Growth.{Adds, HasOne}
use Rattle.inline_model.proofs.Edges.{calls_of, Returns}
use Rattle.inline_model.proofs.within.return_from.Given as goal

abbrev pub invariant-loop-site : goal.invariant-loop-site
invariant-loop-site l = Adds l.fn.pool l.pool (HasOne (Returns l.done) (take l.site-index (calls_of l.model l.function)))
