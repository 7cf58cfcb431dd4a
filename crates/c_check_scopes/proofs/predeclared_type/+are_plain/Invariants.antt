use Rattle.std.proofs.Common.{length}
use Rattle.c_check_scopes.proofs.predeclared_type.+are_plain.Given as goal

abbrev pub decreases-are_plain : goal.decreases-are_plain
decreases-are_plain l = length l.ts.now
