use Rattle.std.proofs.Common.{◌≡◌, ◌++◌, drop}
use Rattle.flow_graph.specs.View.{shapes_in}
use Rattle.flow_graph.specs.Edges.{edges_in}
use Rattle.c_meaning.specs.GraphOf.{edges_from, nodes_from}
use Rattle.flow_graph.proofs.functions.edges_of.Given as goal

abbrev pub invariant-loop-shape : goal.invariant-loop-shape
invariant-loop-shape l = record {
  laid : edges_in l.edges.items ++ edges_from l.entry (shapes_in (drop l.shape-index l.shapes)) ≡ edges_from 0 (shapes_in l.shapes);
  nodes : nodes_from l.entry (shapes_in (drop l.shape-index l.shapes)) ≡ nodes_from 0 (shapes_in l.shapes);
}
