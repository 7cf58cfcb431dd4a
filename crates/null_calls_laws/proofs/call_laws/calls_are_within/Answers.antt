use Rattle.null_calls_laws.proofs.MostCalls.{calls_are_within}
use Rattle.null_calls_laws.proofs.call_laws.calls_are_within.Goals as goal

pub returns : goal.returns
returns c = calls_are_within
