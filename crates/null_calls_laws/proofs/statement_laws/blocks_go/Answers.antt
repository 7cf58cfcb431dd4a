use Rattle.null_calls_laws.proofs.StatementsGo.{blocks_go as every_one_goes}
use Rattle.null_calls_laws.proofs.statement_laws.blocks_go.Goals as goal

pub returns : goal.returns
returns c = every_one_goes
