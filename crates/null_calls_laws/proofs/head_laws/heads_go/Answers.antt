use Rattle.null_calls_laws.proofs.Heads.{all_heads_go}
use Rattle.null_calls_laws.proofs.head_laws.heads_go.Goals as goal

pub returns : goal.returns
returns c = all_heads_go
