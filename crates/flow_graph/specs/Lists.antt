-- The lists of edges that are read alike, as a model keeps them.
use Rattle.std.specs.Prelude.{◌≡◌, List}
use Rattle.flow_graph.specs.declared.lists.Lists.{Lists}
use Rattle.flow_model.specs.Order.{silent_order, sys_order}
use Rattle.c_meaning.specs.GraphLayout.{Edge}
use Rattle.c_meaning.specs.GraphOf.{silent_edges, sys_edges}
use Rattle.c_meaning.specs.Sorted.{sorted}

-- those of these edges, in order and each once
pub record AreLists (edges : List Edge) (lists : Lists) : Type 0 where
  pub silent : lists.silent.items ≡ sorted silent_order (silent_edges edges)
  pub sys : lists.sys.items ≡ sorted sys_order (sys_edges edges)
