use Rattle.null_calls_laws.proofs.StatementCounts.{blocks_stay}
use Rattle.null_calls_laws.proofs.counts.blocks_stay.Goals as goal

pub returns : goal.returns
returns c = blocks_stay
