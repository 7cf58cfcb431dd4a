use Rattle.std.proofs.Common.{[], refl}
use Rattle.report.specs.Precision.{precision_bound}
use Rattle.report.proofs.MeasureLemmas.{measured_start}
use Rattle.report.proofs.precision.Meter.open.Goals as goal

pub returns : goal.returns
returns g c =
    let frame = c.count_next.ensures.frame in
    let stands = c.in_ok-monitor.ensures.stands in
    measured_start g.M.Monitor.is_pool g.M.Monitor.stands g.M.Monitor.noted g.M.Monitor.WHICH c.args.model.now _ c.in_ok-next.next refl frame.pool (frame.notes (c.open.ensures.notes c.in_ok-pool.ensures.notes)) c.in_ok-trials.ensures (frame.others c.in_ok-monitor.monitor precision_bound [] stands) c.in_ok-monitor.ensures.empty (c.in_ok-next.ensures.exact precision_bound [] stands) c.in_ok-next.ensures.few refl c.from.ensures
