use Rattle.std.proofs.Common.{◌≡◌, take, flat_map}
use Rattle.tool_fleet.specs.Fleet.{report_line}
use Rattle.tool_fleet.proofs.report_text.fleet_text.Given as goal

abbrev pub invariant-loop-report : goal.invariant-loop-report
invariant-loop-report l = l.text.items ≡ flat_map report_line (take l.report-index l.reports)
