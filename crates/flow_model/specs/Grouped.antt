-- For private contracts and proofs alone: lists kept one after another, and where each begins.
use Rattle.std.specs.Prelude.{◌≡◌, ℕ, ◌+◌, ◌<◌, ◌≤◌, List, length, slice_index, slice_range}

-- the k-th of the n groups stands in the items from the k-th start up to the next one
pub record AreGrouped {X : Type 0} (starts : List ℕ) (items : List X) (n : ℕ) (group_of : ℕ → List X) : Type 0 where
  pub long : length starts ≡ n + 1
  pub rise : (k : ℕ) → k < n → slice_index starts k ≤ slice_index starts (k + 1)
  pub within : (k : ℕ) → k < n → slice_index starts (k + 1) ≤ length items
  pub group : (k : ℕ) → k < n → slice_range items (slice_index starts k) (slice_index starts (k + 1)) ≡ group_of k
