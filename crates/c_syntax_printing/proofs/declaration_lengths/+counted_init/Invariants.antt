use Rattle.std.proofs.Common.{drop}
use Rattle.c_syntax.specs.Print.{inits_kinds}
use Rattle.c_syntax_printing.specs.Counted.{Leaves}
use Rattle.c_syntax.specs.WritesUnit.{inits_of, left_inits}
use Rattle.c_syntax_printing.proofs.declaration_lengths.+counted_init.Given as goal

abbrev pub invariant-count_inits-loop-init : goal.invariant-count_inits-loop-init
invariant-count_inits-loop-init l =
    Leaves l.fn.total (inits_kinds (inits_of l.all)) l.total (left_inits l.first (inits_of (drop l.init-index l.all)))
