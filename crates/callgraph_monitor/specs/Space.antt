-- What the callgraph monitors of one model share.
use Rattle.std.specs.Prelude.{◌≡◌, ◌↔◌, ℕ, ◌<◌, ◌≤◌, List, [], length, Contains, slice_index_or}
use Rattle.flow_model.specs.Found.{Found}
use Rattle.flow_model.specs.Graph.{Graph}
use Rattle.flow_model.specs.Language.{Quiet}
use Rattle.callgraph_monitor.specs.Visits.{visit_cost}

-- working space, and for each node the list of the nodes to which one step that reads nothing leads from it
pub record Space : Type 0 where
  pub found : Found
  pub quiet : List (List ℕ)

-- the list has just the nodes to which one step that reads nothing leads from the node, and it is no longer than there
-- are edges and candidate entries at the node
pub record AreEnds (g : Graph) (node : ℕ) (ends : List ℕ) : Type 0 where
  pub exact : (b : ℕ) → Contains ends b ↔ Quiet g node b
  pub few : length ends ≤ visit_cost g node

-- there is such a list for each node
pub record AreQuiet (g : Graph) (quiet : List (List ℕ)) : Type 0 where
  pub long : length quiet ≡ g.nodes
  pub each : (a : ℕ) → a < g.nodes → AreEnds g a (slice_index_or quiet a [])

-- the working space and the lists are those of the model
pub record IsSpaceOf (space : Space) (g : Graph) : Type 0 where
  pub size : space.found.size ≡ g.nodes
  pub quiet : AreQuiet g space.quiet
