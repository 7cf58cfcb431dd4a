use Rattle.std.proofs.Common.{◌≡◌, ℕ, ◌+◌, ◌-◌, ◌<◌, ◌≤◌, length, filter, nat_lt, Contains}
use Rattle.dm_sets.specs.Nodes.{Has}
use Rattle.callgraph_monitor.specs.Ahead.{IsAhead}
use Rattle.callgraph_monitor.proofs.reading.read.Given as goal

abbrev pub invariant-loop-node : goal.invariant-loop-node
invariant-loop-node g l = record {
  size : l.pool.size ≡ l.model.nodes;
  within : l.from ≤ l.model.nodes;
  only : (b : ℕ) → Contains l.pool.nodes b → (a : ℕ) × Has l.set a × IsAhead l.model l.event a b;
  all : (a b : ℕ) → a < l.from → Has l.set a → IsAhead l.model l.event a b → Contains l.pool.nodes b;
  some : 0 < l.from → (a : ℕ) × Has l.set a;
  cost : l.steps ≤ l.fn.steps + length (filter (λ e. nat_lt e.from l.from) l.model.sys);
  rise : l.fn.steps ≤ l.steps;
}

abbrev pub decreases-loop-node : goal.decreases-loop-node
decreases-loop-node g l = l.model.nodes - l.from
