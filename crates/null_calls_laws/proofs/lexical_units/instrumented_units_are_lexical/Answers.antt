use Rattle.null_calls_laws.proofs.LexicalUnits.{instrumented_are_lexical}
use Rattle.null_calls_laws.proofs.lexical_units.instrumented_units_are_lexical.Goals as goal

pub returns : goal.returns
returns c = instrumented_are_lexical
