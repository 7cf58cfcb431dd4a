-- What `upgrade MODEL` makes of its file, and why it refuses it.
use Rattle.std.specs.Prelude.{◌≡◌, ◌⊎◌, ℕ, ◌<◌, ◌≤◌, List, length, Option, IfSome, IsSomeAnd, codes}
use Rattle.dm_base.specs.declared.verdict.Status.{Status}
use Rattle.dm_base.specs.declared.verdict.Status.TheVariants as statuses
use Rattle.dm_io.specs.Store.{Files, file_at}
use Rattle.flow_model.specs.Graph.{Graph}
use Rattle.model_file.specs.declared.version.ModelVersion.TheVariants.{Two}
use Rattle.model_file.specs.ModelText.{model_text}
use Rattle.model_file.specs.Refusal.{longest, IsModel}
use Rattle.tool_files.specs.Inputs.{RefusesModel}

-- the text is that of the file's model in version 2
abbrev pub Upgrades : Files → List ℕ → List ℕ → Type 0
Upgrades files name text = (g : Graph) × IsModel (file_at files name) g × (text ≡ model_text Two g) × (length text ≤ longest)

-- the line of a model whose text would be longer than a model's text may be
abbrev pub too_long : List ℕ
too_long = codes "model refused G2\n"

-- the model is refused, or its text in version 2 is too long
abbrev pub RefusesToUpgrade : Option Files → List ℕ → Status → List ℕ → Type 0
RefusesToUpgrade files name status line =
    RefusesModel files name status line
    ⊎ ((status ≡ statuses.ModelRefused) × (line ≡ too_long) × IfSome files (λ told. (g : Graph) × IsModel (file_at told name) g × (longest < length (model_text Two g))))

-- the file is told, and is a model whose text in version 2 is short enough
abbrev pub IsReadyToUpgrade : Option Files → List ℕ → Type 0
IsReadyToUpgrade files name = IsSomeAnd files (λ told. (g : Graph) × IsModel (file_at told name) g × (length (model_text Two g) ≤ longest))
