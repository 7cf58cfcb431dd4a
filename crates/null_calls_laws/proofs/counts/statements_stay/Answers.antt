use Rattle.null_calls_laws.proofs.StatementCounts.{statements_stay}
use Rattle.null_calls_laws.proofs.counts.statements_stay.Goals as goal

pub returns : goal.returns
returns c = statements_stay
