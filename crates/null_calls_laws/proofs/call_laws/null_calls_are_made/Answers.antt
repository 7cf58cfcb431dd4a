use Rattle.null_calls_laws.proofs.AddedParts.{null_calls_are_made}
use Rattle.null_calls_laws.proofs.call_laws.null_calls_are_made.Goals as goal

pub returns : goal.returns
returns c = null_calls_are_made
