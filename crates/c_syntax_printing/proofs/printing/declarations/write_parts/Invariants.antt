use Rattle.std.proofs.Common.{drop}
use Rattle.c_syntax.specs.UnitView.{parts_of}
use Rattle.c_syntax.specs.Print.{parts_kinds}
use Rattle.c_syntax.specs.Writes.{Leaves}
use Rattle.c_syntax.specs.WritesUnit.{left_parts}
use Rattle.c_syntax_printing.proofs.printing.declarations.write_parts.Given as goal

abbrev pub invariant-loop-part : goal.invariant-loop-part
invariant-loop-part l =
    Leaves l.fn.out.items (parts_kinds (parts_of l.parts)) l.out.items (left_parts l.first (parts_of (drop l.part-index l.parts)))
