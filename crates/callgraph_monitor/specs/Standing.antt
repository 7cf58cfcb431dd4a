-- What a callgraph monitor stands for.
use Rattle.std.specs.Prelude.{◌≡◌, ◌↔◌, ℕ, List}
use Rattle.dm_base.specs.declared.event.Event.{Event}
use Rattle.dm_base.specs.Trace.{erase}
use Rattle.dm_sets.specs.Nodes.{Nodes, Has}
use Rattle.flow_model.specs.declared.which.Which.TheVariants.{Callgraph}
use Rattle.flow_model.specs.Graph.{Graph, HasFunction}
use Rattle.flow_model.specs.Language.{Walk}
use Rattle.flow_model.specs.Verdict.{IsAccepted, IsRejectedAt}

-- a walk from the start's entry that reads the history without its null calls ends at the node
abbrev pub IsAfter : Graph → List Event → ℕ → Type 0
IsAfter g h a = (entry : ℕ) × (exit : ℕ) × HasFunction g g.start entry exit × Walk g entry (erase h) a

-- the set has the nodes where such walks end; while it has any, the history is accepted, and else it was rejected
pub record StandsFor (set : Nodes) (g : Graph) (bound : ℕ) (h : List Event) : Type 0 where
  pub size : set.size ≡ g.nodes
  pub after : (a : ℕ) → Has set a ↔ IsAfter g h a
  pub accepted : (a : ℕ) → Has set a → IsAccepted Callgraph g bound h
  pub over : ((a : ℕ) → Has set a → ⊥) → (k : ℕ) × IsRejectedAt Callgraph g bound h k
