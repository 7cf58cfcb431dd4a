-- For private contracts and proofs alone: a set of keys, beside a mark for each of them, and a set of facts, beside an index.
use Rattle.std.specs.Prelude.{◌≡◌, ◌↔◌, ◌<◌, ℕ, List, Contains, Bool, true, false, length, slice_index_or}
use Rattle.stack_automaton.specs.declared.place.Fact.{Fact}

-- a set of keys, in the order in which they were added
pub record Keys : Type 0 where
  pub keys : List ℕ

-- just the keys of the list are marked
abbrev pub AreMarked : List ℕ → List Bool → Type 0
AreMarked keys marks = (k : ℕ) → Contains keys k ↔ (slice_index_or marks k false ≡ true)

-- a set of facts, in the order in which they were added
pub record Facts : Type 0 where
  pub keys : List Fact

-- where there are more than few, the index has just the facts of the list
abbrev pub AreIndexed : List Fact → List Fact → Type 0
AreIndexed facts index = 64 < length facts → (x : Fact) → Contains index x ↔ Contains facts x
