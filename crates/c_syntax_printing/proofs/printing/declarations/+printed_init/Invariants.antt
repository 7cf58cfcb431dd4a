use Rattle.std.proofs.Common.{drop}
use Rattle.c_syntax.specs.Print.{inits_kinds}
use Rattle.c_syntax.specs.Writes.{Leaves}
use Rattle.c_syntax.specs.WritesUnit.{inits_of, left_inits}
use Rattle.c_syntax_printing.proofs.printing.declarations.+printed_init.Given as goal

abbrev pub invariant-write_inits-loop-init : goal.invariant-write_inits-loop-init
invariant-write_inits-loop-init l =
    Leaves l.fn.out.items (inits_kinds (inits_of l.all)) l.out.items (left_inits l.first (inits_of (drop l.init-index l.all)))
