use Rattle.std.proofs.Common.{List, length, take, subst, arith}
use Rattle.std.proofs.lemmas.List.{length-take, take_all}
use Rattle.dm_base.specs.declared.event.Event.{Event}
use Rattle.flow_model.proofs.Histories.{take_next}
use Rattle.report.specs.Measuring.{HasMeasured}
use Rattle.report.proofs.precision.measure.Goals as goal

pub take-requires : goal.take-requires
take-requires g c =
    (take c.loop-event.event-index c.args.trace.now, c.loop-event.invariant, omega (arith, length-take c.loop-event.event-index c.args.trace.now, c.loop-event-test.true, c.requires))

pub loop-event-preserved : goal.loop-event-preserved
loop-event-preserved g c =
    subst (λ (t : List Event). HasMeasured g.M.Monitor.is_pool g.M.Monitor.stands g.M.Monitor.noted g.M.Monitor.WHICH c.take.new.self c.args.model.now t)
    (take_next c.args.trace.now c.loop-event.event-index c.event-item.result c.loop-event-test.true c.event-item.is)
    (c.in_ok-take.ensures (take c.loop-event.event-index c.args.trace.now) c.loop-event.invariant)

pub returns : goal.returns
returns g c =
    c.figures.ensures c.args.model.now c.args.trace.now
    (subst (λ (t : List Event). HasMeasured g.M.Monitor.is_pool g.M.Monitor.stands g.M.Monitor.noted g.M.Monitor.WHICH c.loop-event.measuring c.args.model.now t)
    (take_all c.loop-event.event-index c.args.trace.now c.loop-event-test.false) c.loop-event.invariant)
