-- For private contracts and proofs alone: how a system call moves a monitor from key to key.
use Rattle.std.specs.Prelude.{◌≡◌, ◌↔◌, ℕ, List}
use Rattle.dm_base.specs.declared.event.Event.{Event}
use Rattle.dm_base.specs.Fits.{Fits}
use Rattle.flow_model.specs.declared.records.SysEdge.{SysEdge}
use Rattle.flow_model.specs.Graph.{Graph}
use Rattle.dm_base.specs.Adding.{Has}
use Rattle.stack_automaton.specs.Held.{States, IsThere, HasEdge, Path, Leads}
use Rattle.stack_automaton.specs.Event.{IsNext}
use Rattle.stack_automaton.specs.Following.{IsFirst}
use Rattle.stack_automaton.specs.Standing.{IsKeyOf}
use Rattle.stack_automaton.specs.declared.place.Place.TheVariants.{Held}
use Rattle.stack_automaton.specs.declared.place.Edge.{Edge}
use Rattle.stack_automaton.specs.declared.place.Fact.{Fact}

-- the event is read along the edge of the model, above the key to which the pool's edge leads
abbrev pub IsRead : Event → Edge → Fact → SysEdge → Type 0
IsRead event e x s = Fits s.name s.args event × (x ≡ record { node = s.to; place = Held e.to })

-- the event is read along an edge of the model from the node with which the pool's edge is labelled
abbrev pub IsReadFrom : Graph → Event → Edge → Fact → Type 0
IsReadFrom g event e x = Has (λ s. (s.from ≡ e.label) × IsRead event e x s) g.sys

-- the facts are those to which the event leads from the key's edges
abbrev pub LeadsBy : Graph → States → ℕ → Event → List Fact → Type 0
LeadsBy g s key event begin = (b q : ℕ) → IsFirst begin b q ↔ IsNext g (HasEdge s) key event b q

-- a key that is there, and a path leads to the final key from each key to which edges lead from it
abbrev pub LiveAt : States → ℕ → ℕ → Type 0
LiveAt s final q = IsThere s q × ((r : ℕ) → Leads (HasEdge s) q r → (z : List ℕ) × Path (HasEdge s) final r z)

-- the next key is that of the state of the event, which leads somewhere
pub record IsMoved (g : Graph) (old new : States) (final key : ℕ) (event : Event) (next : ℕ) : Type 0 where
  pub begin : List Fact
  pub leads : LeadsBy g old key event begin
  pub after : IsKeyOf g new final begin next
  pub node : ℕ
  pub below : ℕ
  pub some : IsNext g (HasEdge old) key event node below
