-- What `inline MODEL` makes of its file, and why it refuses it.
use Rattle.std.specs.Prelude.{◌≡◌, ◌↔◌, ◌⊎◌, ℕ, ◌<◌, ◌≤◌, List, length, Option, IfSome, IsSomeAnd, codes}
use Rattle.dm_base.specs.declared.event.Event.{Event}
use Rattle.dm_base.specs.declared.verdict.Status.{Status}
use Rattle.dm_base.specs.declared.verdict.Status.TheVariants as statuses
use Rattle.dm_io.specs.Store.{Files, file_at}
use Rattle.flow_model.specs.declared.which.Which.TheVariants.{Callgraph, Stack}
use Rattle.flow_model.specs.Graph.{Graph}
use Rattle.flow_model.specs.Language.{Reads}
use Rattle.inline_model.specs.Cause.{IsBounded}
use Rattle.inline_model.specs.Chains.{HasNoGreatest}
use Rattle.inline_model.specs.Inlined.{IsInlined, HasTooManyNodes}
use Rattle.model_file.specs.declared.version.ModelVersion.TheVariants.{Two}
use Rattle.model_file.specs.ModelText.{model_text}
use Rattle.model_file.specs.Refusal.{longest, IsModel}
use Rattle.tool_files.specs.Inputs.{RefusesModel}

-- h is the inlined model of g, whose chains have a greatest length, and has no more nodes than a model may have
pub record HasInlined (g h : Graph) : Type 0 where
  pub bounded : IsBounded g
  pub inlined : IsInlined g h
  pub few : HasTooManyNodes g → ⊥

-- The text is that of the inlined model in version 2, and is read as this model. Its callgraph model and its abstract-stack
-- model have the words of the abstract-stack model of g.
pub record IsInlinedText (g : Graph) (text : List ℕ) : Type 0 where
  pub inlined : Graph
  pub has : HasInlined g inlined
  pub is : text ≡ model_text Two inlined
  pub read_back : IsModel text inlined
  pub stack : (t : List Event) → Reads Stack inlined t ↔ Reads Stack g t
  pub callgraph : (t : List Event) → Reads Callgraph inlined t ↔ Reads Stack g t

-- the text is that of the inlined model of the file's model
abbrev pub Inlines : Files → List ℕ → List ℕ → Type 0
Inlines files name text = (g : Graph) × IsModel (file_at files name) g × IsInlinedText g text

-- the line of a model whose calls recurse
abbrev pub recursive_line : List ℕ
recursive_line = codes "model refused I1\n"

-- the line of a model whose inlined model would have more nodes than a model may have
abbrev pub many_line : List ℕ
many_line = codes "model refused I2\n"

-- the line of a model whose inlined model would have a longer text than a model may have
abbrev pub long_line : List ℕ
long_line = codes "model refused G2\n"

abbrev pub IsNoInlinedLine : List ℕ → Type 0
IsNoInlinedLine line = (line ≡ recursive_line) ⊎ ((line ≡ many_line) ⊎ (line ≡ long_line))

-- why the model is not inlined, and the line that tells it
pub data IsNotInlined (g : Graph) (line : List ℕ) : Type 0 where
  recursive : line ≡ recursive_line → HasNoGreatest g → IsNotInlined g line
  many : line ≡ many_line → IsBounded g → HasTooManyNodes g → IsNotInlined g line
  long : line ≡ long_line → (h : Graph) → HasInlined g h → longest < length (model_text Two h) → IsNotInlined g line

-- the model is refused, or it is not inlined
abbrev pub RefusesToInline : Option Files → List ℕ → Status → List ℕ → Type 0
RefusesToInline files name status line =
    RefusesModel files name status line
    ⊎ ((status ≡ statuses.ModelRefused) × IsNoInlinedLine line × IfSome files (λ told. (g : Graph) × IsModel (file_at told name) g × IsNotInlined g line))

-- the file is told, and is a model whose inlined model is within the limits, and its text
abbrev pub IsReadyToInline : Option Files → List ℕ → Type 0
IsReadyToInline files name =
    IsSomeAnd files (λ told. (g : Graph) × (h : Graph) × IsModel (file_at told name) g × HasInlined g h × (length (model_text Two h) ≤ longest))
