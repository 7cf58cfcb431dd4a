use Rattle.null_calls_laws.proofs.StatementCounts.{blocks_low}
use Rattle.null_calls_laws.proofs.heights.blocks_stay_low.Goals as goal

pub returns : goal.returns
returns c = blocks_low
