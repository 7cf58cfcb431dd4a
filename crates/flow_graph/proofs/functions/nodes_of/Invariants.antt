use Rattle.std.proofs.Common.{◌≡◌, min, take}
use Rattle.flow_graph.specs.View.{shapes_in}
use Rattle.c_meaning.specs.GraphOf.{nodes_from}
use Rattle.flow_graph.proofs.functions.nodes_of.Given as goal

abbrev pub invariant-loop-shape : goal.invariant-loop-shape
invariant-loop-shape l = l.sum ≡ min (nodes_from 0 (shapes_in (take l.shape-index l.shapes))) l.most
