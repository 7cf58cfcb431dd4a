use Rattle.std.proofs.Common.{◌≡◌, ◌<◌, ℕ, ◌++◌, take, flat_map, slice_index_or}
use Rattle.trace_file.specs.declared.record.Record.{Record}
use Rattle.trace_file.specs.Lines.{record_line, IsWrittenRecord}
use Rattle.trace_file.proofs.writing.push_records.Given as goal

abbrev pub invariant-loop-one : goal.invariant-loop-one
invariant-loop-one l = record {
  text : l.text.items ≡ l.fn.text.items ++ flat_map record_line (take l.one-index l.records);
  written : (k : ℕ) (d : Record) → k < l.one-index → IsWrittenRecord (slice_index_or l.records k d);
}
