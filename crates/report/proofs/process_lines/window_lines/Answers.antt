use Rattle.std.proofs.Common.{◌-◌, length, arith}
use Rattle.report.proofs.ProcessLemmas.{kept_next}
use Rattle.report.proofs.process_lines.window_lines.Goals as goal

pub loop-event-preserved : goal.loop-event-preserved
loop-event-preserved c = record {
  number = omega (arith, c.loop-event.invariant.number);
  lines = kept_next (c.args.at - length c.args.window.now) c.loop-event.number c.args.window.now c.loop-event.event-index c.event-item.result c.loop-event.lines.items _ c.loop-event-test.true c.event-item.is c.loop-event.invariant.number c.loop-event.invariant.lines c.in_ok-push_kept.ensures;
}
