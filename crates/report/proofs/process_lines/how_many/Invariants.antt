use Rattle.std.proofs.Common.{◌≡◌, ◌≤◌, take}
use Rattle.report.specs.ProcessLines.{how_many}
use Rattle.report.proofs.process_lines.how_many.Given as goal

abbrev pub invariant-loop-verdict : goal.invariant-loop-verdict
invariant-loop-verdict l = record {
  count : l.count ≡ how_many l.kind (take l.verdict-index l.verdicts);
  few : l.count ≤ l.verdict-index;
}
