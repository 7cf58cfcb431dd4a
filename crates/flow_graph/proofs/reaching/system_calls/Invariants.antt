use Rattle.std.proofs.Common.{◌↔◌, ◌≤◌, ◌<◌, ℕ, Contains}
use Rattle.flow_graph.proofs.reaching.system_calls.Given as goal

abbrev pub invariant-loop-node : goal.invariant-loop-node
invariant-loop-node l = (k : ℕ) → Contains l.found.keys k ↔ ((l.first ≤ k) × (k < l.node))
