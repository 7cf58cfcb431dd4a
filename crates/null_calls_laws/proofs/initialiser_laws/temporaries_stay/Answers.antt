use Rattle.null_calls_laws.proofs.Reserved.{temporaries_stay}
use Rattle.null_calls_laws.proofs.initialiser_laws.temporaries_stay.Goals as goal

pub returns : goal.returns
returns c = temporaries_stay
