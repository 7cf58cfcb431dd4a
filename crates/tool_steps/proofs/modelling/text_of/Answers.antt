use Rattle.std.proofs.Common.{◌≡◌, ℕ, ◌<◌, List, length}
use Rattle.model_file.specs.declared.version.ModelVersion.TheVariants.{Two}
use Rattle.model_file.specs.ModelText.{model_text}
use Rattle.model_file.specs.Refusal.{longest}
use Rattle.tool_steps.specs.ModelTexts.{long_text}
use Rattle.tool_steps.proofs.ModelLemmas.{stop_by}
use Rattle.tool_steps.proofs.modelling.text_of.Goals as goal

pub returns-in-Ok-clause-text : goal.returns-in-Ok-clause-text
returns-in-Ok-clause-text c = record { writes = c.in-Ok.ensures.text; is_model = c.in-Ok.ensures.formed }

pub returns-in-Err-TooLarge-clause-stop : goal.returns-in-Err-TooLarge-clause-stop
returns-in-Err-TooLarge-clause-stop c =
    stop_by (λ (line : List ℕ). line ≡ long_text) (λ (line : List ℕ). (line ≡ long_text) × (longest < length (model_text Two c.args.model.now))) c.stop_with.result
    (λ line is. (is, c.in-Err-TooLarge.ensures.long c.in-Err-TooLarge.field-0-is)) c.stop_with.ensures
