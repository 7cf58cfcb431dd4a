use Rattle.null_calls_laws.proofs.Texts.{instrumented_are_read_back}
use Rattle.null_calls_laws.proofs.text_laws.instrumented_texts_are_read_back.Goals as goal

pub returns : goal.returns
returns c = instrumented_are_read_back
