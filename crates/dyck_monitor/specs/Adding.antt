-- For private contracts and proofs alone: how a list of different nodes grows.
use Rattle.std.specs.Prelude.{◌≡◌, ◌↔◌, ◌⊎◌, ℕ, List, ◌++◌, Contains}
use Rattle.flow_model.specs.Found.{Found, AreFound}

-- the list grows at its end, by just the nodes of which P holds, none of which stands twice
pub record Adds (P : ℕ → Type 0) (old new : Found) : Type 0 where
  pub size : new.size ≡ old.size
  pub front : (rest : List ℕ) × (new.nodes ≡ old.nodes ++ rest)
  pub members : (b : ℕ) → Contains new.nodes b ↔ (Contains old.nodes b ⊎ P b)
  pub found : AreFound old → AreFound new

-- P holds of b at one of the items
abbrev pub IsOfOne : {X : Type 0} → List X → (X → ℕ → Type 0) → ℕ → Type 0
IsOfOne {X} xs P b = (x : X) × Contains xs x × P x b
