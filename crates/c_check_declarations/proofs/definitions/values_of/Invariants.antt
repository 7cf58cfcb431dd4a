use Rattle.std.proofs.Common.{◌≡◌, take}
use Rattle.c_check_declarations.specs.ObjectView.{cells_seen}
use Rattle.c_check_declarations.proofs.definitions.values_of.Given as goal

abbrev pub invariant-loop-g : goal.invariant-loop-g
invariant-loop-g l = l.values.items ≡ cells_seen (take l.g-index l.cells)
