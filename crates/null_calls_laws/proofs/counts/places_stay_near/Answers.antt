use Rattle.null_calls_laws.proofs.ExpressionCounts.{places_near}
use Rattle.null_calls_laws.proofs.counts.places_stay_near.Goals as goal

pub returns : goal.returns
returns c = places_near
