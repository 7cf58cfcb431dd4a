-- For private contracts and proofs alone: lists that get items.
use Rattle.std.specs.Prelude.{◌⊎◌, ◌↔◌, List, Contains}

-- the new list has just what the old one has, and the items that have P
pub record Adds {Y : Type 0} (old new : List Y) (P : Y → Type 0) : Type 0 where
  pub is : (x : Y) → Contains new x ↔ (Contains old x ⊎ P x)
