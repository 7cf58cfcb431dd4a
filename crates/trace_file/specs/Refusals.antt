-- For private contracts and proofs alone: why a line of a trace is refused.
use Rattle.std.specs.Prelude.{◌≡◌, ◌≢◌, ℕ, ◌+◌, ◌<◌, ◌≤◌, ◌^◌, List, [], ◌++◌, length, codes, ◌⊎◌, Some}
use Rattle.dm_base.specs.declared.event.Event.{Event}
use Rattle.line_text.specs.Files.{IsVersionLine}
use Rattle.line_text.specs.Reading.{Agree, StandsFirst, IsCutShort}
use Rattle.trace_file.specs.declared.error.TraceError.{TraceError}
use Rattle.trace_file.specs.declared.error.TraceError.TheVariants.{OutOfMemory, BadLine, NoEnd, TooLong, TooManyProcesses, Version}
use Rattle.trace_file.specs.declared.lines.TraceLine.{TraceLine}
use Rattle.trace_file.specs.declared.lines.TraceLine.TheVariants as lines
use Rattle.trace_file.specs.LineParts.{trace_line, IsTraceLine, traces_line, IsTracesLine}
use Rattle.trace_file.specs.Trace.{most, trace_head, longest}
use Rattle.trace_file.specs.declared.lines.TracesLine.{TracesLine}
use Rattle.trace_file.specs.declared.lines.TracesLine.TheVariants as records
use Rattle.trace_file.specs.declared.record.Record.{Record}
use Rattle.trace_file.specs.declared.traces_place.TracesPlace.{TracesPlace}
use Rattle.trace_file.specs.declared.traces_place.TracesStage.{TracesStage}
use Rattle.trace_file.specs.declared.version.TracesVersion.{TracesVersion}
use Rattle.trace_file.specs.Traces.{traces_head, IsTracesRefusal, AreTracesOf, BeginsWith}
use Rattle.trace_file.specs.TracesReading.{ReachesTraces, stage_version}

-- why the first line is refused, which may be unfinished: it is another version, or bad, or cut short
abbrev pub IsHeadRefusal : TraceError → List ℕ → Type 0
IsHeadRefusal Version line = (n : ℕ) × (n < 2 ^ 32) × (n ≢ 1) × IsVersionLine (codes "dyckmon-trace ") n line
IsHeadRefusal (BadLine k) line = (k ≡ 1) × (Agree trace_head line → ⊥) × ((n : ℕ) → n < 2 ^ 32 → IsVersionLine (codes "dyckmon-trace ") n line → ⊥)
IsHeadRefusal NoEnd line = IsCutShort {V = Unit {0}} (λ _. Unit {0}) (λ _. trace_head) line
IsHeadRefusal OutOfMemory line = Unit {0}
IsHeadRefusal TooLong line = ⊥
IsHeadRefusal (TooManyProcesses k) line = ⊥

-- an event's line is read only where fewer events than the most came before it
abbrev pub HasRoom : ℕ → TraceLine → Type 0
HasRoom n (lines.Event event) = n < most
HasRoom n (lines.End end) = Unit {0}

-- why a line after those of n events is refused, which may be unfinished
abbrev pub IsLineRefusal : ℕ → TraceError → List ℕ → Type 0
IsLineRefusal n OutOfMemory line = Unit {0}
IsLineRefusal n (BadLine k) line = (k ≡ n + 2) × ((v : TraceLine) → IsTraceLine v → Agree (trace_line v) line → ⊥)
IsLineRefusal n NoEnd line = IsCutShort IsTraceLine trace_line line
IsLineRefusal n TooLong line = (event : Event) × (most ≤ n) × StandsFirst IsTraceLine trace_line line [] (lines.Event event)
IsLineRefusal n (TooManyProcesses k) line = ⊥
IsLineRefusal n Version line = ⊥

-- why the first line is refused, which may be unfinished: it is another version, or bad, or cut short
abbrev pub IsTracesHeadRefusal : TraceError → List ℕ → Type 0
IsTracesHeadRefusal Version line = (n : ℕ) × (n < 2 ^ 32) × ((n ≡ 1) ⊎ (n ≡ 2) → ⊥) × IsVersionLine (codes "dyckmon-traces ") n line
IsTracesHeadRefusal (BadLine k) line = (k ≡ 1) × ((version : TracesVersion) → Agree (traces_head version) line → ⊥) × ((n : ℕ) → n < 2 ^ 32 → IsVersionLine (codes "dyckmon-traces ") n line → ⊥)
IsTracesHeadRefusal NoEnd line = (version : TracesVersion) × IsCutShort {V = Unit {0}} (λ _. Unit {0}) (λ _. traces_head version) line
IsTracesHeadRefusal OutOfMemory line = Unit {0}
IsTracesHeadRefusal TooLong line = ⊥
IsTracesHeadRefusal (TooManyProcesses k) line = ⊥

-- a record's line is read only where fewer records than the most came before it
abbrev pub HasRecordRoom : ℕ → TracesLine → Type 0
HasRecordRoom n (records.Record r) = n < most
HasRecordRoom n records.End = Unit {0}

-- why a line after those of n records is refused, which may be unfinished
abbrev pub IsRecordRefusal : ℕ → TraceError → List ℕ → Type 0
IsRecordRefusal n OutOfMemory line = Unit {0}
IsRecordRefusal n (BadLine k) line = (k ≡ n + 2) × ((v : TracesLine) → IsTracesLine v → Agree (traces_line v) line → ⊥)
IsRecordRefusal n NoEnd line = IsCutShort IsTracesLine traces_line line
IsRecordRefusal n TooLong line = (r : Record) × (most ≤ n) × StandsFirst IsTracesLine traces_line line [] (records.Record r)
IsRecordRefusal n (TooManyProcesses k) line = ⊥
IsRecordRefusal n Version line = ⊥

-- the text with this tail ends here
abbrev pub EndsIn : TracesPlace → List ℕ → Type 0
EndsIn at tail = (lines : List ℕ) (records : List Record) → ReachesTraces at lines records → length (lines ++ tail) ≤ longest → AreTracesOf (stage_version at.stage) (lines ++ tail) records

-- why the text is refused; where its first line stands whole, the stage tells its version, and it tells no other
pub record IsRefusedAt (at : TracesStage) (error : TraceError) (text : List ℕ) : Type 0 where
  pub refusal : IsTracesRefusal error text
  pub tells : error ≢ OutOfMemory → (version : TracesVersion) → BeginsWith (Some version) text → stage_version at ≡ Some version
  pub first : error ≢ OutOfMemory → (version : TracesVersion) → stage_version at ≡ Some version → BeginsWith (Some version) text
