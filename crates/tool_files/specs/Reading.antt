-- For private contracts and proofs alone: how far a file of a trace, or of interleaved traces, has been read, and what that says of the file.
use Rattle.std.specs.Prelude.{◌≡◌, ◌≢◌, ◌⊎◌, ℕ, ◌<◌, ◌≤◌, List, ◌++◌, Option, None, Some, length, IfSome}
use Rattle.dm_base.specs.declared.event.Event.{Event}
use Rattle.dm_base.specs.declared.outcome.TraceEnd.{TraceEnd}
use Rattle.dm_base.specs.declared.verdict.Status.TheVariants as statuses
use Rattle.dm_io.specs.Faults.{Rose}
use Rattle.dm_io.specs.Store.{Files, file_at, IsMissing}
use Rattle.model_file.specs.declared.error.ModelError.{ModelError}
use Rattle.model_file.specs.declared.error.ModelError.TheVariants as models
use Rattle.trace_file.specs.declared.error.TraceError.{TraceError}
use Rattle.trace_file.specs.declared.error.TraceError.TheVariants as traces
use Rattle.trace_file.specs.declared.trace_reader.TraceReader.{TraceReader}
use Rattle.trace_file.specs.TraceReading.{StandsForTrace}
use Rattle.trace_file.specs.Trace.{longest, IsTraceWithin, IsTraceRefusal}
use Rattle.trace_file.specs.Traces.{IsTracesRefusal}
use Rattle.tool_frame.specs.declared.stop.Stop.{Stop}
use Rattle.tool_frame.specs.declared.stop.Stop.TheVariants as stops
use Rattle.tool_files.specs.Inputs.{model_refusal, trace_refusal, RefusesModel}

-- the reader was given the text, and the events that it gave have been judged
pub record IsOpen (reader : TraceReader) (Judged : List Event → Type 0) (text : List ℕ) : Type 0 where
  pub events : List Event
  pub stands : StandsForTrace reader text events
  pub judged : Judged events

-- the text is refused however it goes on
pub record IsShut (Refusal : TraceError → List ℕ → Type 0) (error : TraceError) (text : List ℕ) : Type 0 where
  pub named : error ≢ traces.OutOfMemory
  pub shown : (more : List ℕ) → length (text ++ more) ≤ longest → Refusal error (text ++ more)

-- the text was read; it goes on, or it has been refused
abbrev pub IsAt : (TraceError → List ℕ → Type 0) → Option TraceError → (List ℕ → Type 0) → List ℕ → Type 0
IsAt Refusal None Open text = Open text
IsAt Refusal (Some error) Open text = IsShut Refusal error text

-- why a file of records was not followed, by the told files and the store's count before and after, where a text is refused for these reasons
abbrev pub StopsFile : (TraceError → List ℕ → Type 0) → Stop → Option Files → List ℕ → ℕ → ℕ → Type 0
StopsFile Refusal stops.Usage files name before after = ⊥
StopsFile Refusal (stops.Source line) files name before after = ⊥
StopsFile Refusal (stops.Model line) files name before after = ⊥
StopsFile Refusal (stops.Record line) files name before after = (error : TraceError) × (error ≢ traces.OutOfMemory) × (line.items ≡ trace_refusal error) × IfSome files (λ told. Refusal error (file_at told name))
StopsFile Refusal stops.Read files name before after = Rose before after ⊎ IsMissing files name
StopsFile Refusal stops.Write files name before after = ⊥
StopsFile Refusal stops.OutOfMemory files name before after = Unit {0}

-- why a trace was not judged
abbrev pub StopsTrace : Stop → Option Files → List ℕ → ℕ → ℕ → Type 0
StopsTrace = StopsFile IsTraceRefusal

-- why interleaved traces were not watched
abbrev pub StopsTraces : Stop → Option Files → List ℕ → ℕ → ℕ → Type 0
StopsTraces = StopsFile IsTracesRefusal

-- why a file was not read to its end: it is longer than a trace, or interleaved traces, may be
abbrev pub StopsReading : Stop → Option Files → List ℕ → ℕ → ℕ → Type 0
StopsReading stops.Usage files name before after = ⊥
StopsReading (stops.Source line) files name before after = ⊥
StopsReading (stops.Model line) files name before after = ⊥
StopsReading (stops.Record line) files name before after = (line.items ≡ trace_refusal traces.TooLong) × IfSome files (λ told. longest < length (file_at told name))
StopsReading stops.Read files name before after = Rose before after ⊎ IsMissing files name
StopsReading stops.Write files name before after = ⊥
StopsReading stops.OutOfMemory files name before after = Unit {0}

-- why a text that was read whole is refused
abbrev pub StopsText : (TraceError → List ℕ → Type 0) → Stop → List ℕ → Type 0
StopsText Refusal stops.Usage text = ⊥
StopsText Refusal (stops.Source line) text = ⊥
StopsText Refusal (stops.Model line) text = ⊥
StopsText Refusal (stops.Record line) text = (error : TraceError) × (error ≢ traces.OutOfMemory) × (line.items ≡ trace_refusal error) × Refusal error text
StopsText Refusal stops.Read text = ⊥
StopsText Refusal stops.Write text = ⊥
StopsText Refusal stops.OutOfMemory text = Unit {0}

-- the whole file was read and followed: the text is the file's, where the files are told
pub record IsReadWhole (files : Option Files) (name : List ℕ) (Followed : List ℕ → Type 0) : Type 0 where
  pub text : List ℕ
  pub short : length text ≤ longest
  pub is : IfSome files (λ told. text ≡ file_at told name)
  pub followed : Followed text

-- the stop of a trace that was refused so
abbrev pub IsStopOf : Stop → TraceError → Type 0
IsStopOf stops.Usage error = ⊥
IsStopOf (stops.Source line) error = ⊥
IsStopOf (stops.Model line) error = ⊥
IsStopOf (stops.Record line) error = (error ≢ traces.OutOfMemory) × (line.items ≡ trace_refusal error)
IsStopOf stops.Read error = ⊥
IsStopOf stops.Write error = ⊥
IsStopOf stops.OutOfMemory error = Unit {0}

-- why a model was not read, by the told files and the store's count before and after
abbrev pub StopsModel : Stop → Option Files → List ℕ → ℕ → ℕ → Type 0
StopsModel stops.Usage files name before after = ⊥
StopsModel (stops.Source line) files name before after = ⊥
StopsModel (stops.Model line) files name before after = RefusesModel files name statuses.ModelRefused line.items
StopsModel (stops.Record line) files name before after = ⊥
StopsModel stops.Read files name before after = Rose before after ⊎ IsMissing files name
StopsModel stops.Write files name before after = ⊥
StopsModel stops.OutOfMemory files name before after = Unit {0}

-- the stop of a model that was refused so
abbrev pub IsStopOfModel : Stop → ModelError → Type 0
IsStopOfModel stops.Usage error = ⊥
IsStopOfModel (stops.Source line) error = ⊥
IsStopOfModel (stops.Model line) error = (error ≢ models.OutOfMemory) × (line.items ≡ model_refusal error)
IsStopOfModel (stops.Record line) error = ⊥
IsStopOfModel stops.Read error = ⊥
IsStopOfModel stops.Write error = ⊥
IsStopOfModel stops.OutOfMemory error = Unit {0}

-- a panel that judged so has followed the trace in the file
pub record IsTraceFollowed (files : Option Files) (name : List ℕ) (Judged : List Event → Type 0) : Type 0 where
  pub events : List Event
  pub is : IfSome files (λ told. (end : TraceEnd) × IsTraceWithin (file_at told name) events end)
  pub judged : Judged events
