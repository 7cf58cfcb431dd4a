-- The file of one process's trace, and why a text is none.
use Rattle.std.specs.Prelude.{◌≡◌, ◌⊎◌, ℕ, ◌<◌, ◌≤◌, List, ◌++◌, All, length, flat_map, codes}
use Rattle.dm_base.specs.declared.event.Event.{Event}
use Rattle.dm_base.specs.declared.outcome.TraceEnd.{TraceEnd}
use Rattle.line_text.specs.Files.{IsProperPrefix, IsBadLine, HasOtherVersion}
use Rattle.trace_file.specs.declared.error.TraceError.{TraceError}
use Rattle.trace_file.specs.declared.error.TraceError.TheVariants.{OutOfMemory, BadLine, NoEnd, TooLong, TooManyProcesses, Version}
use Rattle.trace_file.specs.EventText.{IsWritten, IsRightEnd}
use Rattle.trace_file.specs.Lines.{event_line, end_line}

-- the greatest length of a trace or of interleaved traces, in bytes: 64 MiB
abbrev pub longest : ℕ
longest = 67108864

-- the greatest number of events or records
abbrev pub most : ℕ
most = 1000000

abbrev pub trace_head : List ℕ
trace_head = codes "dyckmon-trace 1\n"

-- the first line, a line for each event, and the end line
abbrev pub trace_text : List Event → TraceEnd → List ℕ
trace_text events end = trace_head ++ flat_map event_line events ++ end_line end

-- the text is that of the events and the end
pub record IsTrace (text : List ℕ) (events : List Event) (end : TraceEnd) : Type 0 where
  pub written : All IsWritten events
  pub right : IsRightEnd end
  pub is : text ≡ trace_text events end

abbrev pub IsFormedTrace : List ℕ → Type 0
IsFormedTrace text = (events : List Event) × (end : TraceEnd) × IsTrace text events end

-- a trace within the limits
pub record IsTraceWithin (text : List ℕ) (events : List Event) (end : TraceEnd) : Type 0 where
  pub trace : IsTrace text events end
  pub few : length events ≤ most
  pub short : length text ≤ longest

-- the lines of one event too many stand first
pub record HasTooManyEvents (text : List ℕ) : Type 0 where
  pub events : List Event
  pub rest : List ℕ
  pub many : length events ≡ 1000001
  pub written : All IsWritten events
  pub is : text ≡ trace_head ++ flat_map event_line events ++ rest

abbrev pub HasOtherTraceVersion : List ℕ → Type 0
HasOtherTraceVersion text = HasOtherVersion (codes "dyckmon-trace ") (λ n. n ≡ 1) text

-- why a text is refused: its length comes first, then another version, then the first line that shows that there are too many events or that is bad, then that it ends too early
abbrev pub IsTraceRefusal : TraceError → List ℕ → Type 0
IsTraceRefusal OutOfMemory text = Unit {0}
IsTraceRefusal TooLong text = (longest < length text) ⊎ HasTooManyEvents text
IsTraceRefusal Version text = (length text ≤ longest) × HasOtherTraceVersion text
IsTraceRefusal (BadLine k) text = (length text ≤ longest) × (HasOtherTraceVersion text → ⊥) × (HasTooManyEvents text → ⊥) × IsBadLine IsFormedTrace text k
IsTraceRefusal NoEnd text = (length text ≤ longest) × (HasTooManyEvents text → ⊥) × IsProperPrefix IsFormedTrace text
IsTraceRefusal (TooManyProcesses k) text = ⊥

-- however the text goes on within the longest length, this is why it is refused
abbrev pub IsTraceShown : TraceError → List ℕ → Type 0
IsTraceShown error text = (more : List ℕ) → length (text ++ more) ≤ longest → IsTraceRefusal error (text ++ more)
