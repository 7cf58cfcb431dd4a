use Rattle.std.proofs.Common.{◌≡◌, ◌<◌, ℕ, ◌++◌, take, flat_map, slice_index_or}
use Rattle.dm_base.specs.declared.event.Arg.{Arg}
use Rattle.trace_file.specs.EventText.{argument_word, HasBytes}
use Rattle.trace_file.proofs.event_writing.push_arguments.Given as goal

abbrev pub invariant-loop-i : goal.invariant-loop-i
invariant-loop-i l = record {
  text : l.text.items ≡ l.fn.text.items ++ flat_map argument_word (take l.i l.arguments);
  are_bytes : (k : ℕ) (d : Arg) → k < l.i → HasBytes (slice_index_or l.arguments k d);
}
