use Rattle.std.proofs.Common.{◌≡◌, ◌+◌, ◌++◌, drop}
use Rattle.flow_graph.specs.View.{parts_of}
use Rattle.flow_graph.specs.Edges.{edges_in}
use Rattle.c_meaning.specs.GraphLayout.{to_each}
use Rattle.flow_graph.proofs.laying.lay_to_each.Given as goal

abbrev pub invariant-loop-k : goal.invariant-loop-k
invariant-loop-k l = record {
  laid : edges_in l.into.items ++ to_each l.a (parts_of (drop l._k l.parts)) l.node ≡ edges_in l.fn.into.items ++ to_each l.a (parts_of l.parts) l.i;
  node : l.node ≡ l.i + l._k;
}
