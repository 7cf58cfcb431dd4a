use Rattle.std.proofs.Common.{◌≡◌, ◌+◌, ℕ, take, Contains}
use Rattle.flow_model.specs.Graph.{HasFunction}
use Rattle.dm_sets.specs.Nodes.{Has}
use Rattle.dyck_monitor.proofs.moves.is_over.Given as goal

abbrev pub invariant-loop-function : goal.invariant-loop-function
invariant-loop-function g l = record {
  none : (f entry exit : ℕ) → Contains (take l.function-index l.functions) f → HasFunction l.model f entry exit → Has l.nodes exit → ⊥;
  counted : l.steps ≡ l.fn.steps + l.function-index;
}
