use Rattle.null_calls_laws.proofs.TreeTypes.{nulls_have_their_types}
use Rattle.null_calls_laws.proofs.call_laws.nulls_have_their_types.Goals as goal

pub returns : goal.returns
returns c = nulls_have_their_types
