use Rattle.std.proofs.Common.{List, subst}
use Rattle.dm_base.specs.declared.event.Event.{Event}
use Rattle.tool_reading.specs.Certify.{IsCertified}
use Rattle.tool_reading.specs.Stopping.{StopsMaking}
use Rattle.tool_reading.proofs.CertifyLemmas.{are_judgeable, tells_certificate, stops_at_model, stops_at_trace, stops_at_facts}
use Rattle.tool_reading.proofs.certify_command.certify_trace.Goals as goal

pub returns-in-Err-clause-stop : goal.returns-in-Err-clause-stop
returns-in-Err-clause-stop g c =
    stops_at_model (g.S.Store.files c.args.store.now) c.args.model.now c.args.trace.now c.args.judge c.in-Err.stop _ _ c.in-Err.ensures.stop

pub returns-in-Err-events_in-clause-stop : goal.returns-in-Err-events_in-clause-stop
returns-in-Err-events_in-clause-stop g c =
    stops_at_trace (g.S.Store.files c.args.store.now) c.args.model.now c.args.trace.now c.args.judge _ c.in-Ok.graph c.in-Err-events_in.stop _ _ _ c.in-Ok.ensures.same c.in-Ok.ensures.never_falls c.in-Ok.ensures.model c.in-Err-events_in.ensures.stop

pub returns-clause-stop : goal.returns-clause-stop
returns-clause-stop g c =
    let told = g.S.Store.files c.args.store.now in
    let read = are_judgeable told _ c.args.model.now c.args.trace.now c.in-Ok.graph c.in-Ok-events_in.events.items c.in-Ok.ensures.same c.in-Ok.ensures.model c.in-Ok-events_in.ensures.events in
    stops_at_facts told c.args.model.now c.args.trace.now c.args.judge c.in-Ok.graph c.in-Ok-events_in.events.items c.in-Err-certify_events.stop _ _ read
    (subst (λ (t : List Event). StopsMaking c.in-Err-certify_events.stop c.args.judge c.in-Ok.graph t) c.deref.ensures.value c.in-Err-certify_events.ensures.stop)

pub returns-in-Ok-certify_events-clause-made : goal.returns-in-Ok-certify_events-clause-made
returns-in-Ok-certify_events-clause-made g c =
    let told = g.S.Store.files c.args.store.now in
    let read = are_judgeable told _ c.args.model.now c.args.trace.now c.in-Ok.graph c.in-Ok-events_in.events.items c.in-Ok.ensures.same c.in-Ok.ensures.model c.in-Ok-events_in.ensures.events in
    tells_certificate told c.args.model.now c.args.trace.now c.args.judge c.in-Ok-certify_events.finished.status c.in-Ok-certify_events.finished.text.items c.in-Ok.graph c.in-Ok-events_in.events.items read
    (subst (λ (t : List Event). IsCertified c.args.judge c.in-Ok.graph t c.in-Ok-certify_events.finished.status c.in-Ok-certify_events.finished.text.items) c.deref.ensures.value c.in-Ok-certify_events.ensures.certified)
