use Rattle.std.proofs.lemmas.Result.{IfOk-weaker}
use Rattle.c_tree.specs.View.{program_of}
use Rattle.flow_graph.specs.Types.{types_at, items_of}
use Rattle.flow_graph.proofs.MadeCallGraph.{reaching_by}
use Rattle.flow_graph.proofs.calls.reaching_in.Goals as goal

pub returns : goal.returns
returns c = IfOk-weaker c.reaching_nodes.result _ _ (λ found. reaching_by (program_of c.args.program.now) (types_at c.args.types.now) (items_of c.args.lists.now) c.in_ok-callers.callers.items c.deref.result.now found.keys c.defined.result c.in_ok-callers.ensures c.deref.ensures.value c.defined.ensures) c.reaching_nodes.ensures
