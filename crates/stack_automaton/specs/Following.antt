-- For private contracts and proofs alone: what is added to the facts of an event, step by step.
use Rattle.std.specs.Prelude.{◌<◌, ◌≤◌, length, slice_index_or, ◌≡◌, ◌⊎◌, ◌↔◌, ℕ, List, Contains, Some, slice_get, ◌++◌, take}
use Rattle.flow_model.specs.declared.records.ModelFunction.{ModelFunction}
use Rattle.flow_model.specs.declared.records.SilentEdge.{SilentEdge}
use Rattle.flow_model.specs.Call.{Call}
use Rattle.flow_model.specs.Graph.{Graph}
use Rattle.dm_base.specs.Adding.{Has}
use Rattle.stack_automaton.specs.Held.{States, HasEdge}
use Rattle.stack_automaton.specs.Event.{IsFact}
use Rattle.stack_automaton.specs.Links.{Links, HasLink}
use Rattle.stack_automaton.specs.declared.place.Place.{Place}
use Rattle.stack_automaton.specs.declared.place.Place.TheVariants.{Held, Entered}
use Rattle.stack_automaton.specs.declared.place.Edge.{Edge}
use Rattle.stack_automaton.specs.declared.place.Fact.{Fact}
use Rattle.stack_automaton.specs.declared.place.Link.{Link}
use Rattle.stack_automaton.specs.declared.saturate.Closure.{Closure}

-- the call edge is that of the site, and no other is
pub record IsCallAt (g : Graph) (site : ℕ) (c : Call) : Type 0 where
  pub has : Contains g.calls c
  pub at : c.site ≡ site
  pub only : (d : Call) → Contains g.calls d → d.site ≡ site → d ≡ c

-- the silent edge leads from the one fact to the other
abbrev pub IsAlong : Fact → SilentEdge → Fact → Type 0
IsAlong x e y = (e.from ≡ x.node) × (y ≡ record { node = e.to; place = x.place })

-- the fact is of the function's entry
abbrev pub IsEntry : List ModelFunction → Fact → ℕ → Type 0
IsEntry functions y f = (one : ModelFunction) × (slice_get functions f ≡ Some one) × (y ≡ record { node = one.entry; place = Entered f })

-- the fact comes of the call of the function, whose exit may be reached
abbrev pub IsCalled : List ModelFunction → List ℕ → Link → ℕ → Fact → Type 0
IsCalled functions ended link f y = IsEntry functions y f ⊎ (Contains ended f × (y ≡ record { node = link.to; place = link.place }))

-- the link of a call above a place
abbrev pub link_of : Call → Place → Link
link_of c p = record { site = c.site; to = c.to; place = p }

-- the fact comes of the call above the place
abbrev pub IsCallTo : List ModelFunction → List ℕ → Place → Call → Fact → Type 0
IsCallTo functions ended p c y = Has (λ f. IsCalled functions ended (link_of c p) f y) c.candidates

-- the call above the place enters the function with this link
abbrev pub IsLinkOf : Place → ℕ → Link → Call → Type 0
IsLinkOf p f l c = Contains c.candidates f × (l ≡ link_of c p)

-- the function ends at the node
abbrev pub EndsAt : List ModelFunction → ℕ → ℕ → Type 0
EndsAt functions node f = (one : ModelFunction) × (slice_get functions f ≡ Some one) × (one.exit ≡ node)

-- so many functions begin at the node or before it
pub record AreBegun (functions : List ModelFunction) (node count : ℕ) : Type 0 where
  pub within : count ≤ length functions
  pub below : (i : ℕ) (d : ModelFunction) → i < count → (slice_index_or functions i d).entry ≤ node
  pub above : (i : ℕ) (d : ModelFunction) → count ≤ i → i < length functions → node < (slice_index_or functions i d).entry

-- the call of the edge's site is returned to from the end of a candidate, which is the node
abbrev pub IsReturn : List ModelFunction → ℕ → Edge → Fact → Call → Type 0
IsReturn functions node e y c = (c.site ≡ e.label) × Has (EndsAt functions node) c.candidates × (y ≡ record { node = c.to; place = Held e.to })

-- a call of an earlier event is returned to
abbrev pub IsBack : Graph → States → Fact → Fact → Type 0
IsBack g s x y = (q : ℕ) × (x.place ≡ Held q) × (edges : List Edge) × (s q ≡ Some edges) × Has (λ e. Has (IsReturn g.functions x.node e y) g.calls) edges

-- the fact is of the exit of the function, which was entered at this event
abbrev pub IsEnd : List ModelFunction → ℕ → Fact → Type 0
IsEnd functions f x = (x.place ≡ Entered f) × EndsAt functions x.node f

-- a call of the function that ends with the fact is returned to
abbrev pub IsAfterEnd : List ModelFunction → Links → Fact → Fact → Type 0
IsAfterEnd functions links x y = (f : ℕ) × IsEnd functions f x × (l : Link) × HasLink links f l × (y ≡ record { node = l.to; place = l.place })

-- one step from the fact, with the calls and the ends that are known
abbrev pub IsStep : Graph → States → Links → List ℕ → Fact → Fact → Type 0
IsStep g s links ended x y =
    Has (λ c. (c.from ≡ x.node) × IsCallTo g.functions ended x.place c y) g.calls
    ⊎ (IsAfterEnd g.functions links x y ⊎ (Has (λ e. IsAlong x e y) g.silent ⊎ IsBack g s x y))

-- the facts with which the event begins
abbrev pub IsFirst : List Fact → ℕ → ℕ → Type 0
IsFirst begin b q = Contains begin (record { node = b; place = Held q })

-- the fact is one of the event's
abbrev pub IsOfEvent : Graph → States → List Fact → Fact → Type 0
IsOfEvent g s begin x = IsFact g (HasEdge s) (IsFirst begin) x.node x.place

-- below each of the facts is a key
abbrev pub AreHeld : List Fact → Type 0
AreHeld facts = (x : Fact) → Contains facts x → (q : ℕ) × (x.place ≡ Held q)

-- the links are the calls that are made from the facts
abbrev pub AreLinks : Graph → List Fact → Links → Type 0
AreLinks g facts links = (f : ℕ) (l : Link) → HasLink links f l ↔ Has (λ z. Has (λ c. (c.from ≡ z.node) × IsLinkOf z.place f l c) g.calls) facts

-- all facts of the event, and its calls
pub record IsClosure (g : Graph) (s : States) (begin : List Fact) (done : Closure) : Type 0 where
  pub facts : (x : Fact) → Contains done.facts.keys x ↔ IsOfEvent g s begin x
  pub links : AreLinks g done.facts.keys done.links

-- the fact comes of the call from z of the function that ends with x
abbrev pub IsOut : Graph → Fact → Fact → Fact → Type 0
IsOut g x z y = (f : ℕ) × IsEnd g.functions f x × Has (λ c. (c.from ≡ z.node) × Contains c.candidates f × (y ≡ record { node = c.to; place = z.place })) g.calls

-- out of the one to the other, or the other way round
abbrev pub IsOutOfBoth : Graph → Fact → Fact → Fact → Type 0
IsOutOfBoth g x z y = IsOut g x z y ⊎ IsOut g z x y

-- the fact is of the entry of a function that is called from the other
abbrev pub IsInto : Graph → Fact → Call → Fact → Type 0
IsInto g x c y = (c.from ≡ x.node) × Has (IsEntry g.functions y) c.candidates

-- one step from the fact, or from the fact and one of the front facts
abbrev pub IsAfter : Graph → States → List Fact → Fact → Fact → Type 0
IsAfter g s front x y = Has (λ z. IsOutOfBoth g x z y) front ⊎ (Has (λ e. IsAlong x e y) g.silent ⊎ (Has (λ c. IsInto g x c y) g.calls ⊎ IsBack g s x y))

-- each step from the front facts ends among all
abbrev pub AreFollowed : Graph → States → List Fact → List Fact → Type 0
AreFollowed g s front all = (x y : Fact) → Contains front x → IsAfter g s front x y → Contains all y

-- the first n facts are followed, and their calls and ends are noted
pub record AreFollowedTo (g : Graph) (s : States) (begin all : List Fact) (links : Links) (ended : List ℕ) (n : ℕ) : Type 0 where
  pub grows : (rest : List Fact) × (all ≡ begin ++ rest)
  pub sound : (x : Fact) → Contains all x → IsOfEvent g s begin x
  pub calls : AreLinks g (take n all) links
  pub ends : (f : ℕ) → Contains ended f ↔ Has (IsEnd g.functions f) (take n all)
  pub followed : AreFollowed g s (take n all) all
