use Rattle.std.proofs.Common.{arith}
use Rattle.flow_graph.proofs.CallersLemmas.{next_call, all_calls}
use Rattle.flow_graph.proofs.reaching.system_calls.Goals as goal

pub loop-node-preserved : goal.loop-node-preserved
loop-node-preserved c = next_call c.args.first c.loop-node.node c.loop-node.found.keys c.note.new.self.keys (omega arith) c.loop-node.invariant c.in_ok-note.ensures

pub returns : goal.returns
returns c = all_calls c.args.first c.loop-node.node c.loop-node.found.keys (omega arith) c.loop-node.invariant
