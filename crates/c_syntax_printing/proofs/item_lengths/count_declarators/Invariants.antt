use Rattle.std.proofs.Common.{drop}
use Rattle.c_syntax.specs.UnitView.{declarators_of}
use Rattle.c_syntax.specs.Print.{declarators_kinds}
use Rattle.c_syntax_printing.specs.Counted.{Leaves}
use Rattle.c_syntax.specs.WritesUnit.{left_declarators}
use Rattle.c_syntax_printing.proofs.item_lengths.count_declarators.Given as goal

abbrev pub invariant-loop-declarator : goal.invariant-loop-declarator
invariant-loop-declarator l =
    Leaves l.fn.total (declarators_kinds (declarators_of l.declarators)) l.total (left_declarators l.first (declarators_of (drop l.declarator-index l.declarators)))
