use Rattle.null_calls_laws.proofs.AllCalls.{all_expressions_go}
use Rattle.null_calls_laws.proofs.call_laws.expressions_go.Goals as goal

pub returns : goal.returns
returns c = all_expressions_go
