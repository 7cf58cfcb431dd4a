use Rattle.std.proofs.Common.{drop}
use Rattle.c_syntax.specs.UnitView.{enumerators_of}
use Rattle.c_syntax.specs.Print.{enumerators_kinds}
use Rattle.c_syntax.specs.Writes.{Leaves}
use Rattle.c_syntax.specs.WritesUnit.{left_enumerators}
use Rattle.c_syntax_printing.proofs.printing.items.write_enumerators.Given as goal

abbrev pub invariant-loop-enumerator : goal.invariant-loop-enumerator
invariant-loop-enumerator l =
    Leaves l.fn.out.items (enumerators_kinds (enumerators_of l.list)) l.out.items (left_enumerators l.first (enumerators_of (drop l.enumerator-index l.list)))
