use Rattle.std.proofs.Common.{◌≡◌, ◌+◌, ℕ, take}
use Rattle.flow_model.specs.Graph.{HasFunction}
use Rattle.dyck_monitor.specs.Adding.{Adds, IsOfOne}
use Rattle.dyck_monitor.proofs.moves.add_entries.Given as goal

abbrev pub invariant-loop-function : goal.invariant-loop-function
invariant-loop-function g l = record {
  adds : Adds (IsOfOne (take l.function-index l.functions) (λ f b. (exit : ℕ) × HasFunction l.model f b exit)) l.fn.pool l.pool;
  counted : l.steps ≡ l.fn.steps + l.function-index;
}
