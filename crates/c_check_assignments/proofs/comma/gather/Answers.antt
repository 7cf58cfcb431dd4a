use Rattle.std.proofs.Common.{rules}
use Rattle.c_check_assignments.proofs.CommaLemmas.{last_more, trees_more}
use Rattle.c_check_assignments.proofs.comma.gather.Goals as goal

pub loop-g-preserved : goal.loop-g-preserved
loop-g-preserved c = (search (rules, last_more), search (rules, trees_more))
