use Rattle.std.proofs.Common.{sym, ap, ◌∙◌, Some, subst, ◌≡◌}
use Rattle.std.proofs.lemmas.Result.{on_ok_weaker}
use Rattle.std.proofs.lemmas.Option.{slice_get-get_or, slice_get_past}
use Rattle.flow_graph.specs.Callers.{HasCaller}
use Rattle.dm_base.specs.Adding.{Has, Adds}
use Rattle.dm_base.proofs.AddingLemmas.{adds_same, adds_nothing}
use Rattle.flow_graph.proofs.CallersLemmas.{callers_in, no_callers_of}
use Rattle.flow_graph.proofs.reaching.note_callers.Goals as goal

pub returns-then-node-callers : goal.returns-then-node-callers
returns-then-node-callers c = adds_nothing c.args.found.now.keys (λ k. HasCaller c.args.callers.now (record { by = k; to = c.args.node })) (no_callers_of c.args.callers.now c.args.node (slice_get_past c.args.callers.now c.args.node c.if-node-callers.true))

pub returns : goal.returns
returns c =
    on_ok_weaker c.note_each.result (λ (adds : Adds c.args.found.now.keys c.note_each.new.found.keys (λ k. Has (λ n. k ≡ n) c.deref.result.now)).
    adds_same c.args.found.now.keys c.note_each.new.found.keys (λ k. Has (λ n. k ≡ n) c.index-callers-node.result.items) (λ k. HasCaller c.args.callers.now (record { by = k; to = c.args.node })) (callers_in c.args.callers.now c.args.node c.index-callers-node.result (slice_get-get_or c.args.callers.now c.args.node c.index-callers-node.result c.if-node-callers.false ∙ ap Some (sym c.index-callers-node.is))) (subst (λ ns. Adds c.args.found.now.keys c.note_each.new.found.keys (λ k. Has (λ n. k ≡ n) ns)) c.deref.ensures.value adds))
    c.note_each.ensures
