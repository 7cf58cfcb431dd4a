-- For private contracts and proofs alone: how the states of an event are put into a pool.
use Rattle.std.specs.Prelude.{◌≡◌, ◌≢◌, ◌↔◌, ◌<◌, ℕ, List, Contains, Option, Some, None, length, slice_index_or, slice_get, nat_eq}
use Rattle.std.specs.List.{position_or_len}
use Rattle.flow_model.specs.Graph.{Graph}
use Rattle.stack_automaton.specs.Held.{States, IsThere, HasEdge}
use Rattle.stack_automaton.specs.Event.{Stores}
use Rattle.stack_automaton.specs.Links.{Links, HasLink, functions_of}
use Rattle.stack_automaton.specs.Following.{IsFirst, IsClosure}
use Rattle.stack_automaton.specs.declared.place.Place.{Place}
use Rattle.stack_automaton.specs.declared.place.Place.TheVariants.{Held, Entered}
use Rattle.stack_automaton.specs.declared.place.Edge.{Edge}
use Rattle.stack_automaton.specs.declared.place.Fact.{Fact}
use Rattle.stack_automaton.specs.declared.place.Link.{Link}
use Rattle.stack_automaton.specs.declared.saturate.Closure.{Closure}

-- each edge leads to a key that is there
abbrev pub IsClosed : States → Type 0
IsClosed s = (k : ℕ) (edges : List Edge) (e : Edge) → s k ≡ Some edges → Contains edges e → IsThere s e.to

-- each entry stays as it was, and edges still lead to keys that are there
pub record Grows (old new : States) : Type 0 where
  pub kept : (k : ℕ) (edges : List Edge) → old k ≡ Some edges → new k ≡ Some edges
  pub closed : IsClosed old → IsClosed new

-- only the entry at the key is changed
pub record IsPut (old new : States) (key : ℕ) (slot : Option (List Edge)) : Type 0 where
  pub changed : new key ≡ slot
  pub others : (k : ℕ) → k ≢ key → new k ≡ old k

-- the key of a place, where the new state of the function at each place has one of these keys
abbrev pub key_at : List ℕ → List ℕ → Place → ℕ
key_at functions keys (Held q) = q
key_at functions keys (Entered f) = slice_index_or keys (position_or_len (nat_eq f) functions) 0

-- the edge is that of the link
abbrev pub IsLinkEdge : List ℕ → List ℕ → Link → Edge → Type 0
IsLinkEdge functions keys l e = e ≡ record { label = l.site; to = key_at functions keys l.place }

-- the edges are those of the calls that enter the function
abbrev pub AreLinkEdges : Links → List ℕ → ℕ → List Edge → Type 0
AreLinkEdges links keys f edges = (e : Edge) → Contains edges e ↔ ((l : Link) × HasLink links f l × IsLinkEdge (functions_of links) keys l e)

-- the edge is that of the fact
abbrev pub IsTopEdge : List ℕ → List ℕ → Fact → Edge → Type 0
IsTopEdge functions keys x e = e ≡ record { label = x.node; to = key_at functions keys x.place }

-- the edges are those of the facts
abbrev pub AreTops : List ℕ → List ℕ → List Fact → List Edge → Type 0
AreTops functions keys facts edges = (e : Edge) → Contains edges e ↔ ((x : Fact) × Contains facts x × IsTopEdge functions keys x e)

-- each of the first n functions that were entered has its known key, or a key of its own which the old pool did not have
pub record Planned (old new : States) (before known keys : List ℕ) (n : ℕ) : Type 0 where
  pub grown : Grows old new
  pub long : length keys ≡ n
  pub there : (i : ℕ) → i < n → IsThere new (slice_index_or keys i 0)
  pub same : (i : ℕ) → i < n → Contains known i → slice_index_or keys i 0 ≡ slice_index_or before i 0
  pub fresh : (i : ℕ) → i < n → (Contains known i → ⊥) → old (slice_index_or keys i 0) ≡ None
  pub apart : (i j : ℕ) → i < n → j < n → i ≢ j → (Contains known j → ⊥) → slice_index_or keys i 0 ≢ slice_index_or keys j 0

-- the new state of the function at the place has the edges of its calls
abbrev pub IsFilled : States → List ℕ → Links → ℕ → Type 0
IsFilled s keys links i = (f : ℕ) → slice_get (functions_of links) i ≡ Some f → (edges : List Edge) × (s (slice_index_or keys i 0) ≡ Some edges) × AreLinkEdges links keys f edges

-- only the states at keys that are not known are changed
pub record Rewrites (old new : States) (keys known : List ℕ) : Type 0 where
  pub others : (k : ℕ) → ((i : ℕ) → i < length keys → (Contains known i → ⊥) → slice_index_or keys i 0 ≢ k) → new k ≡ old k
  pub there : (k : ℕ) → IsThere old k → IsThere new k
  pub closed : IsClosed old → IsClosed new

-- and the first n have the edges of their calls
pub record Filled (old new : States) (keys known : List ℕ) (links : Links) (n : ℕ) : Type 0 where
  pub rewrites : Rewrites old new keys known
  pub filled : (i : ℕ) → i < n → IsFilled new keys links i

-- below each fact of the event and each call is a key that is there
pub record AreTargets (s : States) (keys : List ℕ) (done : Closure) : Type 0 where
  pub facts : (x : Fact) → Contains done.facts.keys x → IsThere s (key_at (functions_of done.links) keys x.place)
  pub links : (f : ℕ) (l : Link) → HasLink done.links f l → IsThere s (key_at (functions_of done.links) keys l.place)

-- the facts are all of the event, and the keys with which it begins are there
pub record IsEvent (g : Graph) (s : States) (begin : List Fact) (done : Closure) : Type 0 where
  pub closure : IsClosure g s begin done
  pub there : (b q : ℕ) → IsFirst begin b q → IsThere s q

-- the states of the entered functions are stored under the keys
pub record AreStored (s : States) (done : Closure) (keys : List ℕ) : Type 0 where
  pub filled : (i : ℕ) → i < length (functions_of done.links) → IsFilled s keys done.links i
  pub targets : AreTargets s keys done

-- the key is that of the event's own state
abbrev pub IsStored : Graph → States → States → List Fact → ℕ → Type 0
IsStored g old new begin key = (keys : ℕ → ℕ) × Stores g (HasEdge old) (HasEdge new) (IsFirst begin) (IsThere old) keys key
