use Rattle.null_calls_laws.proofs.ExpressionsGo.{expressions_go}
use Rattle.null_calls_laws.proofs.expression_laws.expressions_go_where_calls_do.Goals as goal

pub returns : goal.returns
returns c = expressions_go
