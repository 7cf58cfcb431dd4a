use Rattle.std.proofs.Common.{length}
use Rattle.c_check_scopes.proofs.fronts.+is_rest_of_pair.Given as goal

abbrev pub decreases-is_rest_of_pair : goal.decreases-is_rest_of_pair
decreases-is_rest_of_pair l = length l.text.now
