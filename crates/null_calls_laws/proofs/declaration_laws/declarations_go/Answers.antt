use Rattle.null_calls_laws.proofs.DeclarationsFollow.{declarations_go}
use Rattle.null_calls_laws.proofs.declaration_laws.declarations_go.Goals as goal

pub returns : goal.returns
returns c = declarations_go
