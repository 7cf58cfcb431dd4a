-- Structs that are sound (C99 6.7.2.1): those that are defined have members, which are objects of known size, and hold structs that were defined before.
use Rattle.std.specs.Prelude.{◌≡◌, ℕ, suc, ◌≤◌, ◌<◌, List, [], ◌∷◌, All, length, Some, None, slice_get}
use Rattle.c_tree.specs.Tree.{CType}
use Rattle.c_tree.specs.Layout.{Structs, cells_of_all}
use Rattle.c_tree.specs.Operands.{IsComplete}
use Rattle.c_tree.specs.Program.{IsBelow}
use Rattle.c_rules_laws.specs.MadeTypes.{Made}

-- how many have definitions
abbrev pub defined_among : Structs → ℕ
defined_among [] = 0
defined_among (None ∷ structs) = defined_among structs
defined_among (Some ts ∷ structs) = suc (defined_among structs)

-- the rank of a struct is that of its definition
pub record AreSound (structs : Structs) : Type 0 where
  pub rank : ℕ → ℕ
  pub ranked : (s : ℕ) (ts : List CType) → slice_get structs s ≡ Some (Some ts) → rank s < defined_among structs
  pub below : (s : ℕ) (ts : List CType) → slice_get structs s ≡ Some (Some ts) → All (IsBelow rank (rank s)) ts
  pub complete : (s : ℕ) (ts : List CType) → slice_get structs s ≡ Some (Some ts) → All (IsComplete structs) ts
  pub members : (s : ℕ) (ts : List CType) → slice_get structs s ≡ Some (Some ts) → 1 ≤ length ts
  pub made : (s : ℕ) (ts : List CType) → slice_get structs s ≡ Some (Some ts) → All (Made structs) ts
  pub few : (s : ℕ) (ts : List CType) → slice_get structs s ≡ Some (Some ts) → cells_of_all structs ts ≤ 65536

-- new structs, where some are defined that weren't
pub record Grows (old new : Structs) : Type 0 where
  pub kept : (s : ℕ) (ts : List CType) → slice_get old s ≡ Some (Some ts) → slice_get new s ≡ Some (Some ts)
  pub long : length new ≡ length old

-- the structs where a part stands are among those of the program
pub record AreWithin (old new : Structs) : Type 0 where
  pub sound : AreSound old
  pub whole : AreSound new
  pub grows : Grows old new
