use Rattle.null_calls_laws.proofs.Texts.{instrumented_are_units}
use Rattle.null_calls_laws.proofs.text_laws.instrumented_units_are_units.Goals as goal

pub returns : goal.returns
returns c = instrumented_are_units
