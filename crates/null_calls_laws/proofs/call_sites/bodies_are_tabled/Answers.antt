use Rattle.null_calls_laws.proofs.CallsOfStatements.{bodies_are_tabled as every_one}
use Rattle.null_calls_laws.proofs.call_sites.bodies_are_tabled.Goals as goal

pub returns : goal.returns
returns c = every_one
