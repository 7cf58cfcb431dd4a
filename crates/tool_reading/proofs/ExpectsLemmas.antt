-- What `expected` makes of two files that were read, and why it stopped.
use Rattle.std.proofs.Common.{◌≡◌, ℕ, ◌≤◌, List, Option, Some, None, IfSome, subst}
use Rattle.std.specs.Prelude.{All, slice_index_or}
use Rattle.dm_base.specs.declared.event.Event.{Event}
use Rattle.dm_base.specs.declared.outcome.TraceEnd.{TraceEnd}
use Rattle.dm_base.specs.declared.verdict.Status.{Status}
use Rattle.dm_io.specs.Store.{Files, file_at}
use Rattle.flow_model.specs.declared.which.Which.{Which}
use Rattle.flow_model.specs.Graph.{Graph}
use Rattle.model_file.specs.Refusal.{IsModel}
use Rattle.sys_table.specs.Table.{IsRecorded}
use Rattle.trace_file.specs.EventText.{IsWritten}
use Rattle.trace_file.specs.Trace.{IsTraceWithin, IsTraceRefusal}
use Rattle.tool_files.specs.Inputs.{RefusesToJudge, LacksToJudge}
use Rattle.tool_files.specs.Reading.{StopsTrace}
use Rattle.tool_files.proofs.InputFiles.{stops_following}
use Rattle.tool_files.proofs.ReadingLemmas.{written_recorded}
use Rattle.tool_frame.specs.declared.stop.Stop.{Stop}
use Rattle.tool_frame.specs.Stop.{Stops}
use Rattle.tool_reading.specs.Expected.{AreExpected}
use Rattle.tool_reading.specs.Expects.{Expects}

-- the events of a trace in a file are recorded
all_recorded : (t : List Event) → All IsWritten t → All IsRecorded t
all_recorded t written = λ k d less. written_recorded (slice_index_or t k d) (written k d less)

pub expects : (told mid : Option Files) (model trace text : List ℕ) (monitors : List Which) (bound : ℕ) (status : Status) (g : Graph) (t : List Event) → mid ≡ told
    → IfSome told (λ files. IsModel (file_at files model) g)
    → IfSome mid (λ files. (end : TraceEnd) × IsTraceWithin (file_at files trace) t end)
    → (All IsRecorded t → AreExpected monitors g bound t status text)
    → IfSome told (λ files. Expects files model trace monitors bound status text)
expects told mid model trace text monitors bound status g t same is_model is_trace expected =
    of told is_model (subst (λ (f : Option Files). IfSome f (λ files. (end : TraceEnd) × IsTraceWithin (file_at files trace) t end)) same is_trace)
  where
    of : (f : Option Files) → IfSome f (λ files. IsModel (file_at files model) g) → IfSome f (λ files. (end : TraceEnd) × IsTraceWithin (file_at files trace) t end)
        → IfSome f (λ files. Expects files model trace monitors bound status text)
    of None is_model is_trace = tt
    of (Some files) is_model is_trace = record {
      graph = g;
      events = t;
      end = is_trace.0;
      is_model = is_model;
      is_trace = is_trace.1;
      expected = expected (all_recorded t (((is_trace.1).trace).written));
    }

-- why it stopped at the trace, once the model was read
pub stops_at_trace : (told mid : Option Files) (model trace : List ℕ) (g : Graph) (stop : Stop) (before between after : ℕ) → mid ≡ told → before ≤ between → IfSome told (λ files. IsModel (file_at files model) g) → StopsTrace stop mid trace between after
    → Stops stop (RefusesToJudge told model trace) (LacksToJudge told model trace) before after
stops_at_trace told mid model trace g stop before between after same less is_model why =
    stops_following IsTraceRefusal told model trace g stop before between after less is_model (subst (λ (f : Option Files). StopsTrace stop f trace between after) same why)
