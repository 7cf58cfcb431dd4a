use Rattle.std.proofs.Common.{drop}
use Rattle.c_syntax.specs.UnitView.{declarators_of}
use Rattle.c_syntax.specs.Print.{declarators_kinds}
use Rattle.c_syntax.specs.Writes.{Leaves}
use Rattle.c_syntax.specs.WritesUnit.{left_declarators}
use Rattle.c_syntax_printing.proofs.printing.items.write_declarators.Given as goal

abbrev pub invariant-loop-declarator : goal.invariant-loop-declarator
invariant-loop-declarator l =
    Leaves l.fn.out.items (declarators_kinds (declarators_of l.declarators)) l.out.items (left_declarators l.first (declarators_of (drop l.declarator-index l.declarators)))
