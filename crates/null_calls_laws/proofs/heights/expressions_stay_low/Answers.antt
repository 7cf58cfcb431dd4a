use Rattle.null_calls_laws.proofs.ExpressionHeights.{expressions_low}
use Rattle.null_calls_laws.proofs.heights.expressions_stay_low.Goals as goal

pub returns : goal.returns
returns c = expressions_low
