-- For private contracts and proofs alone: the known processes as a list without repeats.
use Rattle.std.specs.Prelude.{◌≡◌, ◌<◌, ℕ, false, if◌then◌else◌, List, [], ◌∷◌, ◌++◌, length, nat_eq, slice_index, take}
use Rattle.std.specs.List.{list_any}
use Rattle.std.specs.Ordering.{nat_cmp}
use Rattle.std.specs.FinSet.{from_list, len}

-- the list has exactly the numbers of the other, each once
pub record AreKnown (known numbers : List ℕ) : Type 0 where
  pub same : from_list {R = nat_cmp} known ≡ from_list numbers
  pub apart : len (from_list {R = nat_cmp} known) ≡ length known

-- the list with the number, where it wasn't there
abbrev pub with_process : List ℕ → ℕ → List ℕ
with_process known process = if list_any (nat_eq process) known then known else known ++ process ∷ []

-- just the numbers of the list, none of which stands twice in it, are found
pub record AreFound (known found : List ℕ) : Type 0 where
  pub same : (process : ℕ) → list_any (nat_eq process) found ≡ list_any (nat_eq process) known
  pub once : (i : ℕ) → i < length known → list_any (nat_eq (slice_index known i)) (take i known) ≡ false
