use Rattle.flow_graph.proofs.ListsLemmas.{sys_more}
use Rattle.flow_graph.proofs.lists.sys_in.Goals as goal

pub loop-edge-preserved : goal.loop-edge-preserved
loop-edge-preserved c = sys_more c.args.edges.now c.loop-edge.edge-index c.edge-item.result c.loop-edge.found.items c.add_sys_edge.new.into.items c.loop-edge-test.true c.edge-item.is c.loop-edge.invariant c.in_ok-add_sys_edge.ensures
