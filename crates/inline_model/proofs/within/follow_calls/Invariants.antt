use Rattle.std.proofs.Common.{take}
use Rattle.flow_model.specs.Growth.{Adds, HasOne}
use Rattle.inline_model.proofs.Edges.{calls_from, Passes}
use Rattle.inline_model.proofs.within.follow_calls.Given as goal

abbrev pub invariant-loop-site : goal.invariant-loop-site
invariant-loop-site l = Adds l.fn.pool l.pool (HasOne (Passes l.model l.done) (take l.site-index (calls_from l.model l.node)))
