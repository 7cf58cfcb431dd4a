use Rattle.null_calls_laws.proofs.AddedParts.{temporaries_are_read}
use Rattle.null_calls_laws.proofs.call_laws.temporaries_are_read.Goals as goal

pub returns : goal.returns
returns c = temporaries_are_read
