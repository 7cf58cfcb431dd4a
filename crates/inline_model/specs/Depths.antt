-- How many calls are open in words of the Dyck model.
use Rattle.std.specs.Prelude.{◌≡◌, ℕ, ◌<◌, ◌≤◌, List}
use Rattle.dm_base.specs.declared.event.Event.{Event}
use Rattle.dm_base.specs.Trace.{depth}
use Rattle.flow_model.specs.declared.which.Which.TheVariants.{Dyck}
use Rattle.flow_model.specs.Graph.{Graph}
use Rattle.flow_model.specs.Language.{Reads}

-- every word of the Dyck model has at most this depth, and some word has it
pub record IsGreatestDepth (g : Graph) (n : ℕ) : Type 0 where
  pub all : (t : List Event) → Reads Dyck g t → depth t ≤ n
  pub some : (t : List Event) × Reads Dyck g t × (depth t ≡ n)

-- for each number some word of the Dyck model is deeper
abbrev pub HasNoGreatestDepth : Graph → Type 0
HasNoGreatestDepth g = (n : ℕ) → (t : List Event) × Reads Dyck g t × (n < depth t)
