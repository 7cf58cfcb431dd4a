use Rattle.std.proofs.Common.{◌≡◌, ◌<◌, ℕ, ◌++◌, take, flat_map, slice_index_or}
use Rattle.dm_base.specs.declared.event.Event.{Event}
use Rattle.trace_file.specs.EventText.{IsWritten}
use Rattle.trace_file.specs.Lines.{event_line}
use Rattle.trace_file.proofs.writing.push_events.Given as goal

abbrev pub invariant-loop-event : goal.invariant-loop-event
invariant-loop-event l = record {
  text : l.text.items ≡ l.fn.text.items ++ flat_map event_line (take l.event-index l.events);
  written : (k : ℕ) (d : Event) → k < l.event-index → IsWritten (slice_index_or l.events k d);
}
