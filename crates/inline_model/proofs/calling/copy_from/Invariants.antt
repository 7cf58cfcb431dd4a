use Rattle.std.proofs.Common.{take}
use Rattle.inline_model.specs.Growing.{Adds, HasOne, IsSysIn}
use Rattle.inline_model.proofs.calling.copy_from.Given as goal

abbrev pub invariant-loop-edge : goal.invariant-loop-edge
invariant-loop-edge l = Adds l.fn.edges.items l.edges.items (HasOne (IsSysIn l.model l.item) (take l.edge-index l.edge-items))
