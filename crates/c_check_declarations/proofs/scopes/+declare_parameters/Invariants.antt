use Rattle.std.proofs.Common.{length}
use Rattle.c_check_declarations.proofs.scopes.+declare_parameters.Given as goal

abbrev pub decreases-declare_parameters : goal.decreases-declare_parameters
decreases-declare_parameters l = length l.ps.now
