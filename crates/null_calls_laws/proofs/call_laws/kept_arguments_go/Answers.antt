use Rattle.null_calls_laws.proofs.KeptArguments.{kept_arguments_go}
use Rattle.null_calls_laws.proofs.call_laws.kept_arguments_go.Goals as goal

pub returns : goal.returns
returns c = kept_arguments_go
