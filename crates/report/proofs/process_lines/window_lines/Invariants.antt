use Rattle.std.proofs.Common.{◌≡◌, ◌+◌, ◌-◌, take, length}
use Rattle.report.specs.ProcessLines.{kept_lines}
use Rattle.report.proofs.process_lines.window_lines.Given as goal

abbrev pub invariant-loop-event : goal.invariant-loop-event
invariant-loop-event l = record {
  number : l.number ≡ l.at - length l.window + l.event-index;
  lines : l.lines.items ≡ kept_lines (l.at - length l.window) (take l.event-index l.window);
}
