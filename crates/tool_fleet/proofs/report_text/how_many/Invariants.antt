use Rattle.std.proofs.Common.{◌≡◌, ◌≤◌, take}
use Rattle.tool_fleet.specs.Fleet.{how_many}
use Rattle.tool_fleet.proofs.report_text.how_many.Given as goal

abbrev pub invariant-loop-report : goal.invariant-loop-report
invariant-loop-report l = record {
  count : l.count ≡ how_many l.kind (take l.report-index l.reports);
  few : l.count ≤ l.report-index;
}
