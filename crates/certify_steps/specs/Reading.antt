-- For private contracts and proofs alone: what is read of a model.
use Rattle.std.specs.Prelude.{◌≡◌, ℕ, List, Contains, Some, slice_get}
use Rattle.flow_model.specs.declared.records.ModelFunction.{ModelFunction}
use Rattle.flow_model.specs.Call.{Call}
use Rattle.flow_model.specs.Graph.{Graph}

-- the call edge is that of the site, and no other is
pub record IsCallAt (g : Graph) (site : ℕ) (c : Call) : Type 0 where
  pub has : Contains g.calls c
  pub at : c.site ≡ site
  pub only : (d : Call) → Contains g.calls d → d.site ≡ site → d ≡ c

-- the function at the place begins at the node
abbrev pub BeginsAt : List ModelFunction → ℕ → ℕ → Type 0
BeginsAt functions f node = (one : ModelFunction) × (slice_get functions f ≡ Some one) × (one.entry ≡ node)

-- the function at the place ends at the node
abbrev pub EndsAt : List ModelFunction → ℕ → ℕ → Type 0
EndsAt functions f node = (one : ModelFunction) × (slice_get functions f ≡ Some one) × (one.exit ≡ node)
