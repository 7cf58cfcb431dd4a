use Rattle.std.proofs.Common.{◌≡◌, ℕ, ◌+◌, ◌-◌, ◌≤◌, [], length, sum_by, take, Contains}
use Rattle.flow_model.specs.Language.{Quiet, Walk}
use Rattle.callgraph_monitor.specs.Visits.{visit_cost}
use Rattle.callgraph_monitor.proofs.visiting.saturate.Given as goal

abbrev pub invariant-loop-node : goal.invariant-loop-node
invariant-loop-node g l = record {
  size : l.pool.size ≡ l.model.nodes;
  within : l.i ≤ length l.pool.nodes;
  kept : (b : ℕ) → Contains l.fn.pool.nodes b → Contains l.pool.nodes b;
  reached : (c : ℕ) → Contains l.pool.nodes c → (b : ℕ) × Contains l.fn.pool.nodes b × Walk l.model b [] c;
  closed : (b c : ℕ) → Contains (take l.i l.pool.nodes) b → Quiet l.model b c → Contains l.pool.nodes c;
  cost : l.steps ≤ l.fn.steps + sum_by (visit_cost l.model) (take l.i l.pool.nodes);
  rise : l.fn.steps ≤ l.steps;
}

abbrev pub decreases-loop-node : goal.decreases-loop-node
decreases-loop-node g l = l.model.nodes - l.i
