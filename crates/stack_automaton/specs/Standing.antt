-- What a stack monitor and its pool are seen as, and what they stand for.
use Rattle.std.specs.Prelude.{◌≡◌, ◌⊎◌, ◌↔◌, ℕ, List, [], Contains, Some}
use Rattle.dm_base.specs.declared.event.Event.{Event}
use Rattle.dm_base.specs.declared.verdict.Step.TheVariants.{Kept, Rejected}
use Rattle.flow_model.specs.declared.which.Which.TheVariants.{Stack}
use Rattle.flow_model.specs.Graph.{Graph}
use Rattle.flow_model.specs.Language.{IsConfig, StackRun}
use Rattle.flow_model.specs.Verdict.{IsAccepted, IsRejectedAt}
use Rattle.stack_automaton.specs.declared.place.Edge.{Edge}
use Rattle.stack_automaton.specs.declared.place.Fact.{Fact}
use Rattle.stack_automaton.specs.declared.place.Place.TheVariants.{Held}
use Rattle.stack_automaton.specs.Held.{States, IsThere, HasEdge, Path, IsHeld, Leads}
use Rattle.stack_automaton.specs.Seen.{Contents, Memory, Position, edges_at}

-- each edge leads to a key that is there, and the final key is there and has no edges
pub record IsPool (p : Contents) : Type 0 where
  pub closed : (k : ℕ) (edges : List Edge) (e : Edge) → edges_at p k ≡ Some edges → Contains edges e → IsThere (edges_at p) e.to
  pub empty : edges_at p p.final ≡ Some []

-- from each key to which edges lead from this one, itself left aside, a path leads to the final key
abbrev pub IsLive : States → ℕ → ℕ → Type 0
IsLive s final key = (l r q : ℕ) → HasEdge s key l r → Leads (HasEdge s) r q → (z : List ℕ) × Path (HasEdge s) final q z

-- the event begins at the node, with the stacks below it that are held from the key
abbrev pub BeginsAt : List Fact → ℕ → ℕ → Type 0
BeginsAt begin b q = Contains begin (record { node = b; place = Held q })

-- the configuration is reached, with nothing read, from one with which the event begins
abbrev pub IsReachedFrom : Graph → States → ℕ → List Fact → ℕ → List ℕ → Type 0
IsReachedFrom g s final begin v z = (b : ℕ) × (q : ℕ) × (y : List ℕ) × BeginsAt begin b q × Path (HasEdge s) final q y × StackRun g b y [] v z

-- From the key just the configurations are held to which an event leads that begins with these facts.
pub record IsKeyOf (g : Graph) (s : States) (final : ℕ) (begin : List Fact) (key : ℕ) : Type 0 where
  pub below : (b q : ℕ) → BeginsAt begin b q → IsThere s q
  pub holds : (v : ℕ) (z : List ℕ) → IsHeld s final key v z ↔ IsReachedFrom g s final begin v z
  pub there : IsThere s key
  pub live : IsLive s final key

-- A pool of the model: what it remembers of earlier events holds in the model.
pub record IsPoolOf (p : Contents) (g : Graph) : Type 0 where
  pub pool : IsPool p
  pub remembered : (m : Memory) → Contains p.remembered m → IsKeyOf g (edges_at p) p.final m.begin m.key

-- The history is accepted, and from the key just its configurations are held.
pub record HoldsConfigs (s : States) (final key : ℕ) (g : Graph) (bound : ℕ) (h : List Event) : Type 0 where
  pub accepted : IsAccepted Stack g bound h
  pub holds : (v : ℕ) (z : List ℕ) → IsHeld s final key v z ↔ IsConfig g h v z
  pub there : IsThere s key
  pub live : IsLive s final key

-- the monitor's last answer is right for the history, and where it is Kept its key holds the configurations
pub data StandsFor (m : Position) (p : Contents) (g : Graph) (bound : ℕ) (h : List Event) : Type 0 where
  kept : m.answer ≡ Kept → HoldsConfigs (edges_at p) p.final m.key g bound h → StandsFor m p g bound h
  rejected : (k : ℕ) → m.answer ≡ Rejected → IsRejectedAt Stack g bound h k → StandsFor m p g bound h

-- the new pool has each entry of the old one as it was, and the same final key
pub record Extends (old new : Contents) : Type 0 where
  pub kept : (k : ℕ) (edges : List Edge) → edges_at old k ≡ Some edges → edges_at new k ≡ Some edges
  pub final : new.final ≡ old.final

-- edges lead there from the key of one of these monitors whose last answer is Kept
abbrev pub IsNeeded : States → List Position → ℕ → Type 0
IsNeeded s ms k = (m : Position) × Contains ms m × (m.answer ≡ Kept) × Leads (HasEdge s) m.key k

-- the noted keys are just those that these monitors need, and they are there
pub record AreNoted (p : Contents) (ms : List Position) : Type 0 where
  pub is : (k : ℕ) → Contains p.noted k ↔ IsNeeded (edges_at p) ms k
  pub there : (k : ℕ) → Contains p.noted k → IsThere (edges_at p) k

-- the keys are just those that these monitors need, and the final key
abbrev pub AreNeeded : Contents → List Position → Type 0
AreNeeded p ms = (k : ℕ) → IsThere (edges_at p) k ↔ ((k ≡ p.final) ⊎ IsNeeded (edges_at p) ms k)
