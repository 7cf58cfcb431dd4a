-- What a monitor of the Dyck model keeps of a history.
use Rattle.std.specs.Prelude.{◌≡◌, ◌↔◌, ℕ, List, []}
use Rattle.dm_base.specs.declared.event.Event.{Event}
use Rattle.dm_base.specs.declared.verdict.Step.{Step}
use Rattle.dm_base.specs.declared.verdict.Step.TheVariants.{Kept}
use Rattle.flow_model.specs.declared.which.Which.TheVariants.{Dyck}
use Rattle.flow_model.specs.Graph.{Graph, HasFunction}
use Rattle.flow_model.specs.Language.{DyckRun}
use Rattle.flow_model.specs.Verdict.{IsStep}
use Rattle.dm_sets.specs.Entries.{Entries}
use Rattle.dm_sets.specs.Nodes.{Nodes, Has}

-- a monitor: the nodes and the open sites, the newest first, that the runs lead to which read its history, and its last answer
pub record Position : Type 0 where
  pub nodes : Nodes
  pub sites : Entries
  pub last : Step

-- a run that reads the history leads from the start function's entry, with no open sites, to this node with these
abbrev pub IsReached : Graph → List Event → ℕ → List ℕ → Type 0
IsReached g h v z = (entry : ℕ) × (exit : ℕ) × HasFunction g g.start entry exit × DyckRun g entry [] h v z

-- the runs that read the history lead to just these nodes, each with these open sites
abbrev pub HoldsRuns : Graph → (ℕ → Type 0) → List ℕ → List Event → Type 0
HoldsRuns g Is sites h = (v : ℕ) (z : List ℕ) → IsReached g h v z ↔ (Is v × (z ≡ sites))

-- The answer is the one at the history's last event, the bound is that of the stack, and while the history is accepted
-- the set and the stack have what the runs that read it lead to.
pub record Stands (g : Graph) (bound : ℕ) (nodes : Nodes) (sites : Entries) (last : Step) (h : List Event) : Type 0 where
  pub size : nodes.size ≡ g.nodes
  pub bound_is : sites.bound ≡ bound
  pub told : IsStep Dyck g bound h last
  pub holds : last ≡ Kept → HoldsRuns g (Has nodes) sites.items h

-- the same, of a monitor that is seen so
abbrev pub StandsFor : Position → Graph → ℕ → List Event → Type 0
StandsFor m g bound h = Stands g bound m.nodes m.sites m.last h
