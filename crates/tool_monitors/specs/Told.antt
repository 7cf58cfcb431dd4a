-- For private contracts and proofs alone: what panels tell of a trace in a file, and watches of interleaved traces.
use Rattle.std.specs.Prelude.{◌≡◌, ℕ, List, ◌++◌, Option, IfSome}
use Rattle.dm_base.specs.declared.event.Event.{Event}
use Rattle.dm_base.specs.declared.outcome.TraceEnd.{TraceEnd}
use Rattle.dm_base.specs.declared.verdict.Status.{Status}
use Rattle.dm_io.specs.Store.{Files, file_at}
use Rattle.trace_file.specs.declared.record.Record.{Record}
use Rattle.trace_file.specs.declared.version.TracesVersion.{TracesVersion}
use Rattle.trace_file.specs.Trace.{IsTraceWithin}
use Rattle.trace_file.specs.Traces.{AreTracesWithin}
use Rattle.tool_monitors.specs.Judged.{worse}

-- the worse status of two, and their texts one after the other
pub record AreBothTold (One Other : Status → List ℕ → Type 0) (status : Status) (text : List ℕ) : Type 0 where
  pub first_status : Status
  pub second_status : Status
  pub first_text : List ℕ
  pub second_text : List ℕ
  pub first : One first_status first_text
  pub second : Other second_status second_text
  pub ends : status ≡ worse first_status second_status
  pub writes : text ≡ first_text ++ second_text

-- this is told of the events of the trace in the file
pub record IsTraceTold (files : Option Files) (name : List ℕ) (Tells : List Event → Status → List ℕ → Type 0) (status : Status) (text : List ℕ) : Type 0 where
  pub events : List Event
  pub is : IfSome files (λ told. (end : TraceEnd) × IsTraceWithin (file_at told name) events end)
  pub told : Tells events status text

-- this is told of the records of the interleaved traces in the file
pub record AreTracesTold (files : Option Files) (name : List ℕ) (Tells : TracesVersion → List Record → Type 0) : Type 0 where
  pub version : TracesVersion
  pub records : List Record
  pub are : IfSome files (λ told. AreTracesWithin (file_at told name) version records)
  pub told : Tells version records
