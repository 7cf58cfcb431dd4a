-- The lines of traces, each with its line feed.
use Rattle.std.specs.Prelude.{ℕ, ◌<◌, ◌^◌, List, [], ◌∷◌, ◌++◌, decimal}
use Rattle.dm_base.specs.declared.event.Event.{Event}
use Rattle.dm_base.specs.declared.outcome.TraceEnd.{TraceEnd}
use Rattle.trace_file.specs.declared.record.Record.{Record}
use Rattle.trace_file.specs.EventText.{event_text, end_text, IsWritten}

abbrev pub event_line : Event → List ℕ
event_line event = event_text event ++ 10 ∷ []

abbrev pub end_line : TraceEnd → List ℕ
end_line end = end_text end ++ 10 ∷ []

-- the process, a space and its event
abbrev pub record_line : Record → List ℕ
record_line r = decimal r.pid ++ 32 ∷ event_line r.event

-- a record that a file may hold
abbrev pub IsWrittenRecord : Record → Type 0
IsWrittenRecord r = (r.pid < 2 ^ 32) × IsWritten r.event
