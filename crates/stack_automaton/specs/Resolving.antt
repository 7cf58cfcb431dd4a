-- For private contracts and proofs alone: the states of entered functions whose calls lead to known keys alone.
use Rattle.std.specs.Prelude.{◌≡◌, ◌⊎◌, ◌<◌, ℕ, List, Contains, Some, None, length, slice_index_or, slice_get, nat_eq, ⊤}
use Rattle.std.specs.List.{position_or_len}
use Rattle.stack_automaton.specs.Held.{States, IsThere}
use Rattle.stack_automaton.specs.Links.{Links, HasLink, functions_of}
use Rattle.stack_automaton.specs.Storing.{IsFilled}
use Rattle.stack_automaton.specs.declared.place.Place.{Place}
use Rattle.stack_automaton.specs.declared.place.Place.TheVariants.{Held, Entered}
use Rattle.stack_automaton.specs.declared.place.Link.{Link}

-- the key of the place is known
abbrev pub IsKnown : List ℕ → List ℕ → Place → Type 0
IsKnown functions known (Held q) = ⊤
IsKnown functions known (Entered f) = Contains known (position_or_len (nat_eq f) functions)

-- at the known places the states have the edges of their calls, which lead to known keys alone
pub record AreResolved (s : States) (keys known : List ℕ) (links : Links) : Type 0 where
  pub long : length keys ≡ length (functions_of links)
  pub within : (i : ℕ) → Contains known i → i < length keys
  pub there : (i : ℕ) → Contains known i → IsThere s (slice_index_or keys i 0)
  pub filled : (i : ℕ) → Contains known i → IsFilled s keys links i
  pub below : (i f : ℕ) (l : Link) → Contains known i → slice_get (functions_of links) i ≡ Some f → HasLink links f l → IsKnown (functions_of links) known l.place

-- the key is the known one of the place, or the place has none and the key is new
abbrev pub IsChosen : States → List ℕ → List ℕ → ℕ → ℕ → Type 0
IsChosen s keys known i key = (Contains known i × (key ≡ slice_index_or keys i 0)) ⊎ ((Contains known i → ⊥) × (s key ≡ None))
