-- For private contracts and proofs alone: how a list of nodes that were found grows.
use Rattle.std.specs.Prelude.{◌≡◌, ℕ, List, ◌++◌, Contains}
use Rattle.flow_model.specs.Found.{Found}

-- nodes that have P were added at the end, and each node that has P was found
pub record Adds (old new : Found) (P : ℕ → Type 0) : Type 0 where
  pub size : new.size ≡ old.size
  pub more : List ℕ
  pub grown : new.nodes ≡ old.nodes ++ more
  pub only : (b : ℕ) → Contains more b → P b
  pub all : (b : ℕ) → P b → Contains new.nodes b

-- nodes that have P were added at the end, and each node that has P is among them
pub record Pushes (old new : List ℕ) (P : ℕ → Type 0) : Type 0 where
  pub more : List ℕ
  pub grown : new ≡ old ++ more
  pub only : (b : ℕ) → Contains more b → P b
  pub all : (b : ℕ) → P b → Contains more b

-- one of the items has P with the node
abbrev pub HasOne : {X : Type 0} → (X → ℕ → Type 0) → List X → ℕ → Type 0
HasOne {X} P xs b = (x : X) × Contains xs x × P x b
