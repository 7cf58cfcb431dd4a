-- For private contracts and proofs alone: a set of numbers as the bits of 64-bit words.
use Prim.Native.Nat.{zero, suc}
use Rattle.std.specs.Prelude.{◌≡◌, ◌≤◌, ◌<◌, ℕ, ◌/◌, ◌%◌, List, slice_index, nat_eq, if◌then◌else◌}
use Rattle.std.specs.Int.{bit_at}
use Rattle.std.specs.Ordering.{nat_cmp}
use Rattle.std.specs.FinSet.{FinSet, empty, insert}

-- the bit that stands for the number: bit k % 64 of the word k / 64
abbrev pub bit : List ℕ → ℕ → ℕ
bit words k = bit_at (slice_index words (k / 64)) (k % 64)

-- the numbers below the size whose bits are 1
abbrev pub members_below : List ℕ → ℕ → FinSet nat_cmp
members_below words zero = empty
members_below words (suc n) = if nat_eq (bit words n) 1 then insert (members_below words n) n else members_below words n

-- the numbers whose bits are 1 are from the first to below the last
abbrev pub AreBetween : List ℕ → ℕ → ℕ → Type 0
AreBetween words first last = (k : ℕ) → bit words k ≡ 1 → (first ≤ k) × (k < last)
