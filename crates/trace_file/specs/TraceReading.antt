-- What a reader of one process's trace stands for. Of `StandsForTrace` no more has to be known than the clauses of `TraceReader` say.
use Rattle.std.specs.Prelude.{◌≡◌, ℕ, ◌+◌, ◌≤◌, List, [], ◌++◌, All, length, flat_map}
use Rattle.dm_base.specs.declared.event.Event.{Event}
use Rattle.dm_base.specs.declared.outcome.TraceEnd.{TraceEnd}
use Rattle.trace_file.specs.declared.trace_place.TracePlace.{TracePlace}
use Rattle.trace_file.specs.declared.trace_place.TracePlace.TheVariants as place
use Rattle.trace_file.specs.EventText.{IsWritten, IsRightEnd}
use Rattle.trace_file.specs.Lines.{event_line, end_line}
use Rattle.trace_file.specs.Held.{Held, StandsFor}
use Rattle.trace_file.specs.Reached.{IsReached}
use Rattle.trace_file.specs.Trace.{most, trace_head, IsTrace, IsFormedTrace, HasTooManyEvents, HasOtherTraceVersion}

-- the lines of some events, and the end line
abbrev pub AreEventsAndEnd : List ℕ → Type 0
AreEventsAndEnd text = (events : List Event) × (end : TraceEnd) × All IsWritten events × IsRightEnd end × (text ≡ flat_map event_line events ++ end_line end)

-- after n events, those lines stand first that make one event too many
abbrev pub BeginsTooManyEvents : ℕ → List ℕ → Type 0
BeginsTooManyEvents n text = (events : List Event) × (rest : List ℕ) × All IsWritten events × (length events + n ≡ 1000001) × (text ≡ flat_map event_line events ++ rest)

-- the first line and those of n events were read
pub record AreEventsRead (n : ℕ) (lines : List ℕ) (events : List Event) : Type 0 where
  pub count : n ≡ length events
  pub few : length events ≤ most
  pub written : All IsWritten events
  pub is : lines ≡ trace_head ++ flat_map event_line events
  pub reached : IsReached IsFormedTrace HasTooManyEvents HasOtherTraceVersion AreEventsAndEnd (BeginsTooManyEvents n) (n + 1) lines

-- the end line was read too
pub record IsEndRead (n : ℕ) (end : TraceEnd) (lines : List ℕ) (events : List Event) : Type 0 where
  pub count : n ≡ length events
  pub few : length events ≤ most
  pub trace : IsTrace lines events end
  pub reached : IsReached IsFormedTrace HasTooManyEvents HasOtherTraceVersion (λ rest. rest ≡ []) (λ rest. ⊥) (n + 2) lines

-- the lines before the place are these, and these are their events
abbrev pub ReachesTrace : TracePlace → List ℕ → List Event → Type 0
ReachesTrace place.Start lines events = (lines ≡ []) × (events ≡ [])
ReachesTrace (place.Events n) lines events = AreEventsRead n lines events
ReachesTrace (place.End n end) lines events = IsEndRead n end lines events

-- the reader was given this text, whose lines so far are of these events, and didn't refuse it
abbrev pub StandsForTrace : Held TracePlace → List ℕ → List Event → Type 0
StandsForTrace = StandsFor ReachesTrace
