use Rattle.std.proofs.Common.{◌≡◌, ◌≤◌, ◌++◌, length, All}
use Rattle.std.specs.Prelude.{flat_map}
use Rattle.sys_table.specs.ResultsText.{IsRightResult, most, result_line}
use Rattle.sys_table.proofs.results.read_records.Given as goal

-- the lines of the records that were read, and what is left, are the text
abbrev pub invariant-lines : goal.invariant-lines
invariant-lines l = record {
  right : All IsRightResult l.records.items;
  few : length l.records.items ≤ most;
  is : l.text ≡ flat_map result_line l.records.items ++ l.rest;
}

abbrev pub decreases-lines : goal.decreases-lines
decreases-lines l = length l.rest
