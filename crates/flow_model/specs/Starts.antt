-- For private contracts and proofs alone: where the items with a number begin in a list whose numbers rise.
use Rattle.std.specs.Prelude.{◌≡◌, ℕ, ◌<◌, ◌≤◌, List, length, slice_index, slice_index_or, map}
use Rattle.flow_model.specs.declared.groups.Member.{Member}
use Rattle.flow_model.specs.Call.{Call}

-- the items below the start have numbers below the bound, and no others have
pub record IsStart {X : Type 0} (number : X → ℕ) (items : List X) (bound start : ℕ) : Type 0 where
  pub within : start ≤ length items
  pub below : (i : ℕ) (d : X) → i < start → number (slice_index_or items i d) < bound
  pub above : (i : ℕ) (d : X) → start ≤ i → i < length items → bound ≤ number (slice_index_or items i d)

-- the starts for each bound from 0 to below n
pub record AreStarts {X : Type 0} (number : X → ℕ) (items : List X) (n : ℕ) (starts : List ℕ) : Type 0 where
  pub long : length starts ≡ n
  pub start : (k : ℕ) → k < n → IsStart number items k (slice_index starts k)

-- the site of the call, once in the group of each function that the call may enter
abbrev pub members_of : Call → List Member
members_of c = map (λ f. record { group = f; site = c.site }) c.candidates
