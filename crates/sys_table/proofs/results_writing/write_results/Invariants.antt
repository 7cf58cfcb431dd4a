use Rattle.std.proofs.Common.{◌≡◌, ℕ, ◌<◌, ◌++◌, take, slice_index_or}
use Rattle.std.specs.Prelude.{flat_map}
use Rattle.hex.specs.Hex.{IsBytes}
use Rattle.sys_table.specs.declared.sys_result.SysResult.{SysResult}
use Rattle.sys_table.specs.ResultsText.{results_head, result_line}
use Rattle.sys_table.proofs.results_writing.write_results.Given as goal

-- the lines of the records before this one follow the first line
abbrev pub invariant-loop-record : goal.invariant-loop-record
invariant-loop-record l = record {
  is : l.text.items ≡ results_head ++ flat_map result_line (take l.record-index l.results);
  are_bytes : (k : ℕ) (d : SysResult) → k < l.record-index → IsBytes (slice_index_or l.results k d).bytes;
}
