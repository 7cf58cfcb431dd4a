use Rattle.std.proofs.Common.{◌≡◌, ◌+◌, ◌++◌, drop}
use Rattle.flow_graph.specs.View.{parts_of}
use Rattle.flow_graph.specs.Edges.{edges_in, places_of}
use Rattle.c_meaning.specs.GraphLayout.{widths, edges_of_parts}
use Rattle.flow_graph.proofs.laying.+laying.Given as goal

abbrev pub invariant-lay_parts-loop-k : goal.invariant-lay_parts-loop-k
invariant-lay_parts-loop-k l = record {
  laid : edges_in l.into.items ++ edges_of_parts (parts_of (drop l.k l.parts)) l.node l.next (places_of l.p) ≡ edges_in l.fn.into.items ++ edges_of_parts (parts_of l.parts) l.i l.n (places_of l.p);
  fresh : l.next + widths (parts_of (drop l.k l.parts)) ≡ l.n + widths (parts_of l.parts);
  node : l.node ≡ l.i + l.k;
}
