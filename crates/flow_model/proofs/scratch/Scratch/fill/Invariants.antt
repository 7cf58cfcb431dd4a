use Rattle.std.proofs.Common.{◌≡◌, ℕ, take, Contains}
use Rattle.dm_sets.specs.Nodes.{Has}
use Rattle.flow_model.proofs.scratch.Scratch.fill.Given as goal

abbrev pub invariant-loop-node : goal.invariant-loop-node
invariant-loop-node l = record {
  size : l.set.size ≡ l.fn.set.size;
  only : (a : ℕ) → Has l.set a → Contains (take l.node-index l.node-items) a;
  has : (a : ℕ) → Contains (take l.node-index l.node-items) a → Has l.set a;
}
