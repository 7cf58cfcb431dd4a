use Rattle.std.proofs.Common.{◌≡◌, take}
use Rattle.dm_base.specs.Adding.{Has, Adds}
use Rattle.flow_graph.proofs.reaching.note_each.Given as goal

abbrev pub invariant-loop-node : goal.invariant-loop-node
invariant-loop-node l = Adds l.fn.found.keys l.found.keys (λ k. Has (λ n. k ≡ n) (take l.node-index l.nodes))
