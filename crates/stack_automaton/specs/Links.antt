-- For private contracts and proofs alone: the calls that are made at an event.
use Rattle.std.specs.Prelude.{◌≡◌, ◌⊎◌, ◌↔◌, ◌<◌, ℕ, List, [], ◌∷◌, ◌++◌, Option, Some, Contains, IsSomeAnd, MatchOption, length, slice_get, nat_eq}
use Rattle.std.specs.List.{position_or_len, slice_set}
use Rattle.std.specs.Map.{keys_of, lookup}
use Rattle.std.specs.HashMap.{HashMap, get}
use Rattle.stack_automaton.specs.declared.place.Link.{Link}

-- the functions that are entered, in the order in which they were found, and the calls that enter each
pub record Links : Type 0 where
  pub lists : List (ℕ × List Link)

-- the link is one of the calls that enter the function
abbrev pub HasLink : Links → ℕ → Link → Type 0
HasLink links f l = IsSomeAnd (lookup (nat_eq f) links.lists) (λ calls. Contains calls l)

-- the functions that are entered, in the order in which they were found
abbrev pub functions_of : Links → List ℕ
functions_of links = keys_of links.lists

-- just these calls are added
pub record AddsLinks (old new : Links) (P : ℕ → Link → Type 0) : Type 0 where
  pub is : (f : ℕ) (l : Link) → HasLink new f l ↔ (HasLink old f l ⊎ P f l)

-- the function at the place has one call more
abbrev pub HasOneMore : List (ℕ × List Link) → List (ℕ × List Link) → ℕ → Link → Type 0
HasOneMore old new place link = (e : ℕ × List Link) × (slice_get old place ≡ Some e) × (new ≡ slice_set old place (e.0, e.1 ++ link ∷ []))

-- whether this is the place of the function, or none where it isn't among them
abbrev pub IsPlaceOf : List ℕ → ℕ → Option ℕ → Type 0
IsPlaceOf functions f place = MatchOption place (position_or_len (nat_eq f) functions ≡ length functions) (λ i. (i ≡ position_or_len (nat_eq f) functions) × (i < length functions))

-- the map has the place of each function
abbrev pub ArePlaced : {S : Type 0} → HashMap ℕ ℕ S → List ℕ → Type 0
ArePlaced places functions = (f : ℕ) → IsPlaceOf functions f (get nat_eq places f)
