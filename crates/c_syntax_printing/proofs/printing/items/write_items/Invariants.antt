use Rattle.std.proofs.Common.{drop}
use Rattle.c_syntax.specs.UnitView.{items_of}
use Rattle.c_syntax.specs.Print.{unit_kinds}
use Rattle.c_syntax.specs.Writes.{Leaves}
use Rattle.c_syntax_printing.proofs.printing.items.write_items.Given as goal

abbrev pub invariant-loop-item : goal.invariant-loop-item
invariant-loop-item l =
    Leaves l.fn.out.items (unit_kinds (items_of l.items)) l.out.items (unit_kinds (items_of (drop l.item-index l.items)))
