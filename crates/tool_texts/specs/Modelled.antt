-- What `model FILE` makes of its file, and why it refuses it.
use Rattle.tool_steps.specs.ModelTexts.{IsModelOf, IsPastLimit, many_nodes, long_text}
use Rattle.std.specs.Prelude.{◌≡◌, ◌⊎◌, ℕ, ◌≤◌, List, length, Option, IfSome, IsSomeAnd}
use Rattle.dm_base.specs.declared.mode.Mode.TheVariants.{Plain}
use Rattle.dm_base.specs.declared.verdict.Status.{Status}
use Rattle.dm_base.specs.declared.verdict.Status.TheVariants as statuses
use Rattle.dm_io.specs.Store.{Files, file_at}
use Rattle.c_rules.specs.Accepted.{IsAcceptedAs}
use Rattle.c_tree.specs.Tree.{Program}
use Rattle.c_meaning.specs.GraphOfProgram.{graph_of_program}
use Rattle.model_file.specs.declared.version.ModelVersion.TheVariants.{Two}
use Rattle.model_file.specs.ModelText.{model_text}
use Rattle.model_file.specs.Refusal.{longest}
use Rattle.tool_steps.specs.Sources.{RefusesSource}

-- the file's text is accepted as a program, and the text is that of its model
abbrev pub Models : Files → List ℕ → List ℕ → Type 0
Models files name text = (p : Program) × IsAcceptedAs (file_at files name) Plain p × IsModelOf p text

-- the text is refused, or its program's model is past a limit
abbrev pub RefusesToModel : Option Files → List ℕ → Status → List ℕ → Type 0
RefusesToModel files name status line =
    RefusesSource Plain files name status line
    ⊎ ((status ≡ statuses.SourceRefused) × ((line ≡ many_nodes) ⊎ (line ≡ long_text)) × IfSome files (λ told. (p : Program) × IsAcceptedAs (file_at told name) Plain p × IsPastLimit p line))

-- the file is told, and its text is accepted as a program whose model is within the limits
abbrev pub IsReadyToModel : Option Files → List ℕ → Type 0
IsReadyToModel files name =
    IsSomeAnd files (λ told. (p : Program) × IsAcceptedAs (file_at told name) Plain p × ((graph_of_program p).nodes ≤ 200000) × (length (model_text Two (graph_of_program p)) ≤ longest))
