-- What `judge` makes of two files that were read.
use Rattle.std.proofs.Common.{ℕ, List, [], ◌∷◌, Option, Some, None, IfSome, inl, refl, sym, subst}
use Rattle.dm_base.specs.declared.event.Event.{Event}
use Rattle.dm_base.specs.declared.outcome.TraceEnd.{TraceEnd}
use Rattle.dm_base.specs.declared.verdict.Status.{Status}
use Rattle.dm_base.specs.declared.verdict.Verdict.{Verdict}
use Rattle.dm_base.specs.declared.verdict.Verdict.TheVariants as verdicts
use Rattle.dm_io.specs.Store.{Files, file_at}
use Rattle.flow_model.specs.declared.which.Which.{Which}
use Rattle.flow_model.specs.Graph.{Graph}
use Rattle.model_file.specs.Refusal.{IsModel}
use Rattle.trace_file.specs.declared.record.Record.{Record}
use Rattle.trace_file.specs.declared.version.TracesVersion.{TracesVersion}
use Rattle.trace_file.specs.Trace.{IsTraceWithin}
use Rattle.tool_frame.specs.Stop.{IsFinished}
use Rattle.tool_models.specs.Judge.{Judges}
use Rattle.tool_files.specs.Judged.{AreJudged, status_of, status_of_all}
use Rattle.tool_files.specs.Told.{AreTracesTold}
use Rattle.tool_models.specs.Watch.{Watches}
use Rattle.tool_models.specs.Watched.{AreAllWatched}
use Rattle.tool_files.proofs.StatusLemmas.{status_finished, worse_finished}

-- each verdict ends the work

statuses_finished : (vs : List Verdict) → IsFinished (status_of_all vs)
statuses_finished [] = inl refl
statuses_finished (v ∷ vs) = worse_finished (status_of v) (status_of_all vs) (status_finished v) (statuses_finished vs)

-- the model and the trace of the files
pub judges : (told : Option Files) (model trace text : List ℕ) (g : Graph) (monitors : List Which) (bound : ℕ) (status : Status) (events : List Event)
    → IfSome told (λ files. IsModel (file_at files model) g)
    → IfSome told (λ files. (end : TraceEnd) × IsTraceWithin (file_at files trace) events end)
    → AreJudged monitors g bound events status text
    → IfSome told (λ files. Judges files model trace monitors bound status text)
judges None model trace text g monitors bound status events is_model is_trace judged = tt
judges (Some files) model trace text g monitors bound status events is_model is_trace judged =
    record { graph = g; events = events; end = is_trace.0; is_model = is_model; is_trace = is_trace.1; judged = judged }

-- the model and the interleaved traces of the files
pub watches : (told : Option Files) (model traces text : List ℕ) (g : Graph) (monitors : List Which) (bound : ℕ) (status : Status)
    → IfSome told (λ files. IsModel (file_at files model) g)
    → AreTracesTold told traces (λ version records. AreAllWatched monitors g bound version records status text)
    → IfSome told (λ files. Watches files model traces monitors bound status text)
watches None model traces text g monitors bound status is_model told = tt
watches (Some files) model traces text g monitors bound status is_model told =
    record { graph = g; version = told.version; records = told.records; is_model = is_model; are_traces = told.are; watched = told.told }

pub watched_finished : (monitors : List Which) (g : Graph) (bound : ℕ) (version : TracesVersion) (records : List Record) (status : Status) (text : List ℕ) → AreAllWatched monitors g bound version records status text → IsFinished status
watched_finished monitors g bound version records status text watched = subst IsFinished (sym watched.ends) (statuses_finished watched.verdicts)
