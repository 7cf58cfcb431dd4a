use Rattle.null_calls_laws.proofs.AddedParts.{temporaries_are_set}
use Rattle.null_calls_laws.proofs.call_laws.temporaries_are_set.Goals as goal

pub returns : goal.returns
returns c = temporaries_are_set
