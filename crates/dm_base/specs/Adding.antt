-- For private contracts and proofs alone: lists that grow.
use Rattle.std.specs.Prelude.{◌≡◌, ◌⊎◌, ◌↔◌, List, ◌++◌, Contains}

-- one of the items has P
abbrev pub Has : {X : Type 0} → (X → Type 0) → List X → Type 0
Has {X} P xs = (x : X) × Contains xs x × P x

-- the list grew at its end, by just the items that have P and weren't there
pub record Adds {Y : Type 0} (old new : List Y) (P : Y → Type 0) : Type 0 where
  pub grows : (rest : List Y) × (new ≡ old ++ rest)
  pub is : (x : Y) → Contains new x ↔ (Contains old x ⊎ P x)

-- what holds of the new: what held of the old, or P
abbrev pub Gains : {Y : Type 0} → (Y → Type 0) → (Y → Type 0) → (Y → Type 0) → Type 0
Gains {Y} Old New P = (y : Y) → New y ↔ (Old y ⊎ P y)
