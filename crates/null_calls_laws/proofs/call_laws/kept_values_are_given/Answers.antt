use Rattle.null_calls_laws.proofs.KeptValues.{kept_values_are_given}
use Rattle.null_calls_laws.proofs.call_laws.kept_values_are_given.Goals as goal

pub returns : goal.returns
returns c = kept_values_are_given
