-- What `picture MODEL` makes of its file, and why it refuses it.
use Rattle.std.specs.Prelude.{◌≡◌, ◌⊎◌, ℕ, ◌<◌, ◌≤◌, List, length, Option, IfSome, IsSomeAnd, codes}
use Rattle.dm_base.specs.declared.verdict.Status.{Status}
use Rattle.dm_base.specs.declared.verdict.Status.TheVariants as statuses
use Rattle.dm_io.specs.Store.{Files, file_at}
use Rattle.flow_model.specs.Graph.{Graph}
use Rattle.model_file.specs.Refusal.{longest, IsModel}
use Rattle.model_picture.specs.Picture.{picture}
use Rattle.tool_files.specs.Inputs.{RefusesModel}

-- the text is the picture of the file's model
abbrev pub Pictures : Files → List ℕ → List ℕ → Type 0
Pictures files name text = (g : Graph) × IsModel (file_at files name) g × (text ≡ picture g) × (length text ≤ longest)

-- the line of a model whose picture would be longer than a model's text may be
abbrev pub too_long : List ℕ
too_long = codes "model refused G2\n"

-- the model is refused, or its picture is too long
abbrev pub RefusesToPicture : Option Files → List ℕ → Status → List ℕ → Type 0
RefusesToPicture files name status line =
    RefusesModel files name status line
    ⊎ ((status ≡ statuses.ModelRefused) × (line ≡ too_long) × IfSome files (λ told. (g : Graph) × IsModel (file_at told name) g × (longest < length (picture g))))

-- the file is told, and is a model whose picture is short enough
abbrev pub IsReadyToPicture : Option Files → List ℕ → Type 0
IsReadyToPicture files name = IsSomeAnd files (λ told. (g : Graph) × IsModel (file_at told name) g × (length (picture g) ≤ longest))
