use Rattle.std.proofs.Common.{length}
use Rattle.c_check_declarations.proofs.parameters.+are_named.Given as goal

abbrev pub decreases-are_named : goal.decreases-are_named
decreases-are_named l = length l.ps.now
