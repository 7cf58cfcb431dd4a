use Rattle.null_calls_laws.proofs.DeclarationsFollow.{firsts_go}
use Rattle.null_calls_laws.proofs.declaration_laws.firsts_go.Goals as goal

pub returns : goal.returns
returns c = firsts_go
