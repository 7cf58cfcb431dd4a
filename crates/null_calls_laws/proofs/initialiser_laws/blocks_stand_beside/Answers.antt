use Rattle.null_calls_laws.proofs.Scopes.{blocks_stand_beside}
use Rattle.null_calls_laws.proofs.initialiser_laws.blocks_stand_beside.Goals as goal

pub returns : goal.returns
returns c = blocks_stand_beside
