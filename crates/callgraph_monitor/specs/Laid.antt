-- For private contracts and proofs alone: lists of nodes kept one after another, and where each begins.
use Rattle.std.specs.Prelude.{◌≡◌, ℕ, ◌+◌, ◌-◌, ◌<◌, ◌≤◌, List, length, map, slice_index, slice_range}
use Rattle.std.specs.List.{range_with_len}

-- the nodes from the k-th start up to the next one
abbrev pub list_at : List ℕ → List ℕ → ℕ → List ℕ
list_at starts nodes k = slice_range nodes (slice_index starts k) (slice_index starts (k + 1))

-- these lists, one for each start but the last
abbrev pub lists_of : List ℕ → List ℕ → List (List ℕ)
lists_of starts nodes = map (list_at starts nodes) (range_with_len 0 (length starts - 1))

-- the starts do not fall, and are places among the nodes
pub record AreLaid (starts nodes : List ℕ) : Type 0 where
  pub rise : (k : ℕ) → k + 1 < length starts → slice_index starts k ≤ slice_index starts (k + 1)
  pub within : (k : ℕ) → k < length starts → slice_index starts k ≤ length nodes

-- the lists with the numbers below n have P, and the last start is the end of the nodes
pub record HaveBelow (P : ℕ → List ℕ → Type 0) (n : ℕ) (starts nodes : List ℕ) : Type 0 where
  pub long : length starts ≡ n + 1
  pub last : slice_index starts n ≡ length nodes
  pub laid : AreLaid starts nodes
  pub each : (k : ℕ) → k < n → P k (list_at starts nodes k)
