-- A file is what it is read as, or refused, and refused with one status.
use Rattle.tool_files.proofs.InputLemmas.{model_or_refused, trace_or_refused, good_files, one_status}
use Rattle.std.proofs.Common.{◌≡◌, ◌≢◌, ℕ, ◌<◌, List, length, Option, Some, None, inl, inr, refl, sym, ◌∙◌, ap, subst, arith}
use Rattle.dm_base.specs.declared.verdict.Status.{Status}
use Rattle.dm_base.specs.declared.verdict.Status.TheVariants as statuses
use Rattle.dm_io.specs.Store.{Files, file_at}
use Rattle.flow_model.specs.declared.which.Which.{Which}
use Rattle.model_file.specs.declared.version.ModelVersion.TheVariants.{Two}
use Rattle.model_file.specs.ModelText.{model_text}
use Rattle.model_file.specs.Refusal.{longest}
use Rattle.model_file.proofs.UniqueLemmas.{one_graph}
use Rattle.trace_file.specs.declared.error.TraceError.{TraceError}
use Rattle.trace_file.specs.declared.error.TraceError.TheVariants as errors
use Rattle.trace_file.specs.Trace.{IsTraceRefusal}
use Rattle.trace_file.specs.Traces.{IsTracesRefusal}
use Rattle.trace_file.proofs.OneReading.{traces_unrefused}
use Rattle.tool_files.specs.Inputs.{RefusesToJudge}
use Rattle.tool_models.specs.Judge.{Judges}
use Rattle.tool_models.specs.Measure.{Measures}
use Rattle.tool_models.specs.Upgrade.{Upgrades, RefusesToUpgrade, IsReadyToUpgrade}
use Rattle.tool_models.specs.Watch.{AreSomeTraces, Watches, RefusesToWatch, IsReadyToWatch}

traces_or_refused : (told : Files) (name : List ℕ) (error : TraceError) → AreSomeTraces told name → error ≢ errors.OutOfMemory → IsTracesRefusal error (file_at told name) → ⊥
traces_or_refused told name error are named refusal = named (traces_unrefused (file_at told name) are.0 are.1 error are.2 refusal)

-- no model is refused and made too, and one file is refused with one status
pub upgrade_or_refused : (told : Files) (name text line : List ℕ) (status : Status) → Upgrades told name text → RefusesToUpgrade (Some told) name status line → ⊥
upgrade_or_refused told name text line status makes (inl refuses) = model_or_refused told name refuses.0 (makes.0, makes.1) refuses.1 refuses.4
upgrade_or_refused told name text line status makes (inr refuses) =
    let same : (refuses.2).0 ≡ makes.0 = one_graph (file_at told name) ((refuses.2).1).version (makes.1).version (refuses.2).0 makes.0 ((refuses.2).1).is (makes.1).is in
    let long : longest < length text = subst (λ (w : List ℕ). longest < length w) (ap (model_text Two) same ∙ sym makes.2) (refuses.2).2 in
    omega (arith, long, makes.3)

pub upgrade_ready : (told : Option Files) (name line : List ℕ) (status : Status) → IsReadyToUpgrade told name → RefusesToUpgrade told name status line → ⊥
upgrade_ready None name line status ready refuses = ready
upgrade_ready (Some told) name line status ready refuses = upgrade_or_refused told name (model_text Two ready.0) line status (ready.0, ready.1, refl, ready.2) refuses

pub upgrade_status : (told : Option Files) (name line : List ℕ) (status : Status) → RefusesToUpgrade told name status line → status ≡ statuses.ModelRefused
upgrade_status told name line status (inl refuses) = refuses.2
upgrade_status told name line status (inr refuses) = refuses.0

-- each command

pub watch_ready : (files : Option Files) (model traces line : List ℕ) (status : Status) → IsReadyToWatch files model traces → RefusesToWatch files model traces status line → ⊥
watch_ready None model traces line status ready refuses = ready
watch_ready (Some told) model traces line status ready refuses = good_files IsTracesRefusal told model traces line status ready.0 (λ error named. traces_or_refused told traces error ready.1 named) refuses

pub judged_apart : (told : Files) (model trace text line : List ℕ) (monitors : List Which) (bound : ℕ) (status later : Status) → Judges told model trace monitors bound status text → RefusesToJudge (Some told) model trace later line → ⊥
judged_apart told model trace text line monitors bound status later makes refuses =
    good_files IsTraceRefusal told model trace line later (makes.graph, makes.is_model) (λ error named. trace_or_refused told trace error (makes.events, makes.end, makes.is_trace) named) refuses

pub measured_apart : (told : Files) (model trace text line : List ℕ) (monitors : List Which) (status later : Status) → Measures told model trace monitors status text → RefusesToJudge (Some told) model trace later line → ⊥
measured_apart told model trace text line monitors status later makes refuses =
    good_files IsTraceRefusal told model trace line later (makes.graph, makes.is_model) (λ error named. trace_or_refused told trace error (makes.events, makes.end, makes.is_trace) named) refuses

pub watched_apart : (told : Files) (model traces text line : List ℕ) (monitors : List Which) (bound : ℕ) (status later : Status) → Watches told model traces monitors bound status text → RefusesToWatch (Some told) model traces later line → ⊥
watched_apart told model traces text line monitors bound status later makes refuses =
    good_files IsTracesRefusal told model traces line later (makes.graph, makes.is_model) (λ error named. traces_or_refused told traces error (makes.version, makes.records, makes.are_traces) named) refuses

pub watch_status : (told : Files) (model traces line other : List ℕ) (status later : Status) → RefusesToWatch (Some told) model traces status line → RefusesToWatch (Some told) model traces later other → status ≡ later
watch_status told model traces line other status later refuses too = one_status IsTracesRefusal told model traces line other status later refuses too
