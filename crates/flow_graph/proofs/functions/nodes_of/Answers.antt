use Rattle.flow_graph.proofs.FunctionsLemmas.{nodes_more}
use Rattle.flow_graph.proofs.functions.nodes_of.Goals as goal

pub loop-shape-preserved : goal.loop-shape-preserved
loop-shape-preserved c = nodes_more c.args.shapes.now c.loop-shape.shape-index c.shape-item.result c.loop-shape.sum c.add.result c.width_of.result c.add-sum.result c.args.most c.loop-shape-test.true c.shape-item.is c.loop-shape.invariant c.width_of.ensures c.add.ensures c.add-sum.ensures
