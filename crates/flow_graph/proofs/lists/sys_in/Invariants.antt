use Rattle.std.proofs.Common.{◌≡◌, take}
use Rattle.flow_graph.specs.Edges.{edges_in}
use Rattle.c_meaning.specs.GraphOf.{sys_edges}
use Rattle.flow_graph.proofs.lists.sys_in.Given as goal

abbrev pub invariant-loop-edge : goal.invariant-loop-edge
invariant-loop-edge l = l.found.items ≡ sys_edges (edges_in (take l.edge-index l.edges))
