use Rattle.null_calls_laws.proofs.PlainCalls.{unmarked_calls_go}
use Rattle.null_calls_laws.proofs.call_laws.unmarked_calls_go.Goals as goal

pub returns : goal.returns
returns c = unmarked_calls_go
