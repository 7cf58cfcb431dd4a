use Rattle.null_calls_laws.proofs.TypedUnits.{texts_run_marked}
use Rattle.null_calls_laws.proofs.unit_laws.instrumented_texts_run_marked.Goals as goal

pub returns : goal.returns
returns c = texts_run_marked
