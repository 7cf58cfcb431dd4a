use Rattle.std.proofs.Common.{◌≡◌}
use Rattle.dm_base.proofs.AddingLemmas.{adds_step_at, adds_end}
use Rattle.flow_graph.proofs.reaching.note_each.Goals as goal

pub loop-node-preserved : goal.loop-node-preserved
loop-node-preserved c = adds_step_at c.args.found.now.keys c.loop-node.found.keys c.note.new.self.keys (λ n k. k ≡ n) c.args.nodes.now c.loop-node.node-index 0 c.loop-node-test.true c.loop-node.invariant c.in_ok-note.ensures

pub returns : goal.returns
returns c = adds_end c.args.found.now.keys c.loop-node.found.keys (λ n k. k ≡ n) c.args.nodes.now c.loop-node.node-index c.loop-node-test.false c.loop-node.invariant
