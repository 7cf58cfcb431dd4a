use Rattle.std.proofs.Common.{◌-◌}
use Rattle.inline_model.specs.Saturating.{IsSaturating}
use Rattle.inline_model.proofs.within.nodes_within.Given as goal

abbrev pub invariant-loop-node : goal.invariant-loop-node
invariant-loop-node l = IsSaturating l.model l.pool l.done l.i

abbrev pub decreases-loop-node : goal.decreases-loop-node
decreases-loop-node l = l.model.nodes - l.i
