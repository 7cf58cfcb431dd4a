use Rattle.null_calls_laws.proofs.InitialisersFollow.{initialisers_go}
use Rattle.null_calls_laws.proofs.initialiser_laws.initialisers_go.Goals as goal

pub returns : goal.returns
returns c = initialisers_go
