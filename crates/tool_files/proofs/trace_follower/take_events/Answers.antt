use Rattle.std.proofs.Common.{◌≡◌, ◌+◌, List, [], ◌∷◌, ◌++◌, take, sym, subst, ap, ◌∙◌, arith, append-nil, append_assoc, length-append}
use Rattle.std.proofs.lemmas.List.{take_all, length-take}
use Rattle.dm_base.specs.declared.event.Event.{Event}
use Rattle.flow_model.proofs.Histories.{take_next}
use Rattle.tool_files.proofs.trace_follower.take_events.Goals as goal

pub loop-event-init : goal.loop-event-init
loop-event-init g c = λ k h judged. subst (λ (t : List Event). g.P.Panel.judged c.args.panel.now c.args.model.now k t) (sym (append-nil h)) judged

pub take-requires-clause-judged : goal.take-requires-clause-judged
take-requires-clause-judged g c =
    let given = c.requires.judged in (
      given.0,
      given.1 ++ take c.loop-event.event-index c.args.events.now,
      c.loop-event.invariant given.0 given.1 given.2,
      omega (arith, given.3, c.loop-event-test.true, length-append given.1 c.args.events.now, length-append given.1 (take c.loop-event.event-index c.args.events.now), length-take c.loop-event.event-index c.args.events.now),
    )

pub loop-event-preserved : goal.loop-event-preserved
loop-event-preserved g c = λ k h judged.
    let before = take c.loop-event.event-index c.args.events.now in
    let more : take c.loop-event.event-index c.args.events.now ++ c.event-item.result ∷ [] ≡ take (c.loop-event.event-index + 1) c.args.events.now = take_next c.args.events.now c.loop-event.event-index c.event-item.result c.loop-event-test.true c.event-item.is in
    subst (λ (t : List Event). g.P.Panel.judged c.take.new.self c.args.model.now k t) (append_assoc h (take c.loop-event.event-index c.args.events.now) (c.event-item.result ∷ []) ∙ ap (λ (t : List Event). h ++ t) more)
    (c.in_ok-take.ensures k (h ++ take c.loop-event.event-index c.args.events.now) (c.loop-event.invariant k h judged))

pub returns : goal.returns
returns g c = λ k h judged.
    let whole : take c.loop-event.event-index c.args.events.now ≡ c.args.events.now = take_all c.loop-event.event-index c.args.events.now (omega arith) in
    subst (λ (t : List Event). g.P.Panel.judged c.loop-event.panel c.args.model.now k (h ++ t)) whole (c.loop-event.invariant k h judged)
