use Rattle.std.proofs.Common.{arith}
use Rattle.c_tree.specs.View.{ctype_of}
use Rattle.flow_graph.specs.Types.{types_at}
use Rattle.flow_graph.proofs.TypesLemmas.{place_most, types_many}
use Rattle.flow_graph.proofs.callers.node_of.Goals as goal

pub overflow_add-result : goal.overflow_add-result
overflow_add-result c = let k = place_most (ctype_of c.in-Through.ctype.now) (types_at c.args.types.now) in let l = types_many c.args.types.now in omega (arith, k, l, c.requires, c.place_of.ensures)
