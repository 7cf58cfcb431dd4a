use Rattle.std.proofs.Common.{◌∙◌, List, arith, subst}
use Rattle.dm_base.specs.declared.event.Event.{Event}
use Rattle.tool_reading.specs.Stopping.{IsShown, StopsClaim}
use Rattle.tool_reading.proofs.ConfirmLemmas.{judged, are_read, tells_confirmed, stops_at_model, stops_at_trace, stops_at_certificate, stops_at_claim}
use Rattle.tool_reading.proofs.confirm_command.confirm_certificate.Goals as goal

pub returns-in-Err-clause-stop : goal.returns-in-Err-clause-stop
returns-in-Err-clause-stop g c =
    stops_at_model (g.S.Store.files c.args.store.now) c.args.model.now c.args.trace.now c.args.certificate.now c.in-Err.stop _ _ c.in-Err.ensures.stop

pub returns-in-Err-events_in-clause-stop : goal.returns-in-Err-events_in-clause-stop
returns-in-Err-events_in-clause-stop g c =
    stops_at_trace (g.S.Store.files c.args.store.now) c.args.model.now c.args.trace.now c.args.certificate.now _ c.in-Ok.graph c.in-Err-events_in.stop _ _ _ c.in-Ok.ensures.same c.in-Ok.ensures.never_falls c.in-Ok.ensures.model c.in-Err-events_in.ensures.stop

pub returns-in-Err-certificate_in-clause-stop : goal.returns-in-Err-certificate_in-clause-stop
returns-in-Err-certificate_in-clause-stop g c =
    let told = g.S.Store.files c.args.store.now in
    stops_at_certificate told c.args.model.now c.args.trace.now c.args.certificate.now _ c.in-Err-certificate_in.stop _ _ _
    (c.in-Ok-events_in.ensures.same ∙ c.in-Ok.ensures.same) (omega (arith, c.in-Ok.ensures.never_falls, c.in-Ok-events_in.ensures.never_falls))
    (judged told _ c.args.model.now c.args.trace.now c.in-Ok.graph c.in-Ok-events_in.events.items c.in-Ok.ensures.same c.in-Ok.ensures.model c.in-Ok-events_in.ensures.events)
    c.in-Err-certificate_in.ensures.stop

pub returns-clause-stop : goal.returns-clause-stop
returns-clause-stop g c =
    let told = g.S.Store.files c.args.store.now in
    let read = are_read told _ _ c.args.model.now c.args.trace.now c.args.certificate.now c.in-Ok.graph c.in-Ok-events_in.events.items c.in-Ok-certificate_in.claim c.in-Ok.ensures.same (c.in-Ok-events_in.ensures.same ∙ c.in-Ok.ensures.same) c.in-Ok.ensures.model c.in-Ok-events_in.ensures.events c.in-Ok-certificate_in.ensures.certificate in
    stops_at_claim told c.args.model.now c.args.trace.now c.args.certificate.now c.in-Ok.graph c.in-Ok-events_in.events.items c.in-Ok-certificate_in.claim c.in-Err-confirm_claim.stop _ _ read
    (subst (λ (t : List Event). StopsClaim c.in-Err-confirm_claim.stop c.in-Ok.graph t c.in-Ok-certificate_in.claim) c.deref.ensures.value c.in-Err-confirm_claim.ensures.stop)

pub returns-in-Ok-confirm_claim-clause-made : goal.returns-in-Ok-confirm_claim-clause-made
returns-in-Ok-confirm_claim-clause-made g c =
    let told = g.S.Store.files c.args.store.now in
    let read = are_read told _ _ c.args.model.now c.args.trace.now c.args.certificate.now c.in-Ok.graph c.in-Ok-events_in.events.items c.in-Ok-certificate_in.claim c.in-Ok.ensures.same (c.in-Ok-events_in.ensures.same ∙ c.in-Ok.ensures.same) c.in-Ok.ensures.model c.in-Ok-events_in.ensures.events c.in-Ok-certificate_in.ensures.certificate in
    tells_confirmed told c.args.model.now c.args.trace.now c.args.certificate.now c.in-Ok-confirm_claim.finished.text.items c.in-Ok.graph c.in-Ok-events_in.events.items c.in-Ok-certificate_in.claim read
    (subst (λ (t : List Event). IsShown c.in-Ok.graph t c.in-Ok-certificate_in.claim c.in-Ok-confirm_claim.finished.text.items) c.deref.ensures.value c.in-Ok-confirm_claim.ensures.shown)
