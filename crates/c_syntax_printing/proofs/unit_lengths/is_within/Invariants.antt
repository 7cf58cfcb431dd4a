use Rattle.std.proofs.Common.{◌≤◌, drop}
use Rattle.c_syntax.specs.UnitView.{items_of}
use Rattle.c_syntax.specs.Print.{unit_kinds}
use Rattle.c_syntax_printing.specs.Counted.{Leaves}
use Rattle.c_syntax_printing.proofs.unit_lengths.is_within.Given as goal

abbrev pub invariant-loop-item : goal.invariant-loop-item
invariant-loop-item l = record {
  leaves : Leaves 0 (unit_kinds (items_of l.items)) l.total (unit_kinds (items_of (drop l.item-index l.items)));
  within : l.total ≤ l.most;
}
