use Rattle.std.proofs.Common.{length, sym, ◌∙◌}
use Rattle.std.proofs.lemmas.Result.{on_ok_weaker}
use Rattle.flow_graph.specs.Saying.{mention_of}
use Rattle.flow_graph.specs.Types.{types_at}
use Rattle.flow_graph.proofs.CallersLemmas.{call_of_node, call_of_none}
use Rattle.flow_graph.proofs.callers.add_call.Goals as goal

pub returns-in_default-clause-added : goal.returns-in_default-clause-added
returns-in_default-clause-added c = call_of_none (length c.args.callers.now.items) (types_at c.args.types.now) c.args.count c.args.by (mention_of c.args.m.now) c.args.callers.now.items (sym c.node_of.ensures ∙ c.in_default.is)

pub returns-clause-added : goal.returns-clause-added
returns-clause-added c = on_ok_weaker c.add_caller.result (call_of_node (length c.args.callers.now.items) (types_at c.args.types.now) c.args.count c.args.by c.in-Some.node (mention_of c.args.m.now) c.args.callers.now.items c.add_caller.new.callers.items (sym c.node_of.ensures ∙ c.in-Some.is)) c.add_caller.ensures.added
