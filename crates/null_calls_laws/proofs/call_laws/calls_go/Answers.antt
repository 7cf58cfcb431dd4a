use Rattle.null_calls_laws.proofs.AllCalls.{all_calls_go}
use Rattle.null_calls_laws.proofs.call_laws.calls_go.Goals as goal

pub returns : goal.returns
returns c = all_calls_go
