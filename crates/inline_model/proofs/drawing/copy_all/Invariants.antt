use Rattle.inline_model.specs.Growing.{Adds, HasNode, LeavesSilent}
use Rattle.inline_model.proofs.drawing.copy_all.Given as goal

abbrev pub invariant-loop-node : goal.invariant-loop-node
invariant-loop-node l = Adds l.fn.edges.items l.edges.items (HasNode (LeavesSilent l.model l.item) l.from l.node)
