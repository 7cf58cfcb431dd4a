use Rattle.std.proofs.Common.{length}
use Rattle.c_check_counts.proofs.tags.+are_added.Given as goal

abbrev pub decreases-are_added : goal.decreases-are_added
decreases-are_added l = length l.ps.now
