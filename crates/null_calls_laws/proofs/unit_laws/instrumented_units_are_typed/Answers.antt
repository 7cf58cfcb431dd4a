use Rattle.null_calls_laws.proofs.TypedUnits.{instrumented_units_typed}
use Rattle.null_calls_laws.proofs.unit_laws.instrumented_units_are_typed.Goals as goal

pub returns : goal.returns
returns c = instrumented_units_typed
