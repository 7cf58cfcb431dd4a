use Rattle.std.proofs.Common.{arith, refl, ap, sym, ◌∙◌, Some, ◌<◌, length}
use Rattle.std.proofs.lemmas.Option.{slice_get-get_or}
use Rattle.flow_graph.proofs.CallersLemmas.{caller_added, caller_past}
use Rattle.flow_graph.proofs.callers.add_caller.Goals as goal

pub returns-then-to-len-clause-added : goal.returns-then-to-len-clause-added
returns-then-to-len-clause-added c = caller_past c.args.callers.now.items c.args.to c.args.by (omega (arith, c.if-to-len.true, c.len.ensures))

pub returns-clause-added : goal.returns-clause-added
returns-clause-added c = let lt : c.args.to < length c.args.callers.now.items = omega (arith, c.if-to-len.false, c.len.ensures) in caller_added c.args.callers.now.items _ c.args.to c.args.by c.index_mut.result.now c.push.new.self lt (slice_get-get_or c.args.callers.now.items c.args.to c.index_mut.result.now lt ∙ ap Some (sym c.index_mut.ensures.value)) refl c.in_ok-push.ensures.items
