use Rattle.std.proofs.Common.{length, ◌+◌, arith}
use Rattle.c_tree.specs.View.{program_of}
use Rattle.flow_graph.specs.Types.{types_at, items_of}
use Rattle.flow_graph.proofs.TypesLemmas.{types_many}
use Rattle.flow_graph.proofs.CallersLemmas.{callers_made}
use Rattle.flow_graph.proofs.callers.callers_of.Goals as goal

pub returns : goal.returns
returns c = callers_made (program_of c.args.program.now) (types_at c.args.types.now) (items_of c.args.lists.now) c.in_ok-callers.callers.items c.add_bodies.new.callers.items c.add_lists.new.callers.items (c.defined.result + 24) (length c.args.types.now) (types_many c.args.types.now) (omega arith) (omega (arith, c.defined.ensures)) c.in_ok-callers.ensures.length c.in_ok-add_bodies.ensures.length c.in_ok-add_lists.ensures.length c.in_ok-callers.ensures.none c.in_ok-add_bodies.ensures.added c.in_ok-add_lists.ensures.added
