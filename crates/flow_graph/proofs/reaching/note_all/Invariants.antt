use Rattle.std.proofs.Common.{◌-◌, ◌^◌}
use Rattle.flow_graph.specs.Callers.{AreFollowed}
use Rattle.flow_graph.proofs.reaching.note_all.Given as goal

abbrev pub invariant-loop-node : goal.invariant-loop-node
invariant-loop-node l = AreFollowed l.callers l.fn.found.keys l.found.keys l.i

abbrev pub decreases-loop-node : goal.decreases-loop-node
decreases-loop-node l = 2 ^ 64 - l.i
