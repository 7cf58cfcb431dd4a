-- The edges of the inlined model as the list of copies tells them.
use Rattle.std.specs.Prelude.{◌≡◌, ◌⊎◌, ◌-◌, ◌+◌, ℕ, ℤ, false, List, Option, Some, Contains, slice_get}
use Rattle.flow_model.specs.Call.{Call}
use Rattle.flow_model.specs.Graph.{Graph, Owns, HasSilent, HasSys, HasFunction}
use Rattle.inline_model.specs.Copies.{entry_of}
use Rattle.inline_model.specs.declared.copied.Copied.{Copied}

-- the number of the node in the copy
abbrev pub number_in : Graph → Copied → ℕ → ℕ
number_in g item a = item.first + (a - entry_of g.functions item.function)

-- a silent edge of the copy's function
pub record IsCopiedSilent (g : Graph) (item : Copied) (i j : ℕ) : Type 0 where
  pub from : ℕ
  pub to : ℕ
  pub has : HasSilent g from to
  pub owns : Owns g.functions g.nodes item.function from
  pub i_is : i ≡ number_in g item from
  pub j_is : j ≡ number_in g item to

-- a system-call edge of the copy's function
pub record IsCopiedSys (g : Graph) (item : Copied) (i x : ℕ) (p : List (Option ℤ)) (j : ℕ) : Type 0 where
  pub from : ℕ
  pub to : ℕ
  pub has : HasSys g from x p to
  pub owns : Owns g.functions g.nodes item.function from
  pub i_is : i ≡ number_in g item from
  pub j_is : j ≡ number_in g item to

-- the edge from the copy before to this one, or back
pub record IsLink (g : Graph) (items : List Copied) (item : Copied) (i j : ℕ) : Type 0 where
  pub inner : item.root ≡ false
  pub before : Copied
  pub stands : slice_get items item.parent ≡ Some before
  pub call : Call
  pub at : slice_get g.calls item.place ≡ Some call
  pub entry : ℕ
  pub exit : ℕ
  pub function : HasFunction g item.function entry exit
  pub either : ((i ≡ number_in g before call.from) × (j ≡ number_in g item entry)) ⊎ ((i ≡ number_in g item exit) × (j ≡ number_in g before call.to))

-- an edge of one of the items
abbrev pub IsDrawnSilent : Graph → List Copied → ℕ → ℕ → Type 0
IsDrawnSilent g items i j = (item : Copied) × Contains items item × (IsCopiedSilent g item i j ⊎ IsLink g items item i j)

abbrev pub IsDrawnSys : Graph → List Copied → ℕ → ℕ → List (Option ℤ) → ℕ → Type 0
IsDrawnSys g items i x p j = (item : Copied) × Contains items item × IsCopiedSys g item i x p j
