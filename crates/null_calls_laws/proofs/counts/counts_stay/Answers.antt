use Rattle.null_calls_laws.proofs.ExpressionCounts.{counts_stay}
use Rattle.null_calls_laws.proofs.counts.counts_stay.Goals as goal

pub returns : goal.returns
returns c = counts_stay
