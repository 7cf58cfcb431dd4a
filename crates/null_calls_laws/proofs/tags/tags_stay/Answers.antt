use Rattle.null_calls_laws.proofs.StatementCounts.{tags_stay as tags_remain}
use Rattle.null_calls_laws.proofs.tags.tags_stay.Goals as goal

pub returns : goal.returns
returns c = tags_remain
