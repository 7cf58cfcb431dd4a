use Rattle.null_calls_laws.proofs.OwnTypes.{values_fit}
use Rattle.null_calls_laws.proofs.call_laws.values_fit_their_types.Goals as goal

pub returns : goal.returns
returns c = values_fit
