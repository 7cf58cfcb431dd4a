-- A model and a trace in files are what they are read as, or refused, and refused with one status.
use Rattle.std.proofs.Common.{◌≡◌, ◌≢◌, ℕ, List, Option, Some, None, inl, inr, sym, ◌∙◌}
use Rattle.std.specs.Prelude.{◌⊎◌}
use Rattle.dm_base.specs.declared.verdict.Status.{Status}
use Rattle.dm_io.specs.Store.{Files, file_at}
use Rattle.model_file.specs.declared.error.ModelError.{ModelError}
use Rattle.model_file.specs.declared.error.ModelError.TheVariants as models
use Rattle.model_file.specs.Refusal.{IsModelRefusal}
use Rattle.model_file.proofs.LawLemmas.{not_refused}
use Rattle.trace_file.specs.declared.error.TraceError.{TraceError}
use Rattle.trace_file.specs.declared.error.TraceError.TheVariants as errors
use Rattle.trace_file.specs.Trace.{IsTraceRefusal}
use Rattle.trace_file.proofs.OneReading.{trace_unrefused}
use Rattle.tool_files.specs.Inputs.{IsAModel, IsATrace, RefusesModel, RefusesRecords, RefusesToJudge, IsReadyToJudge}

pub model_or_refused : (told : Files) (model : List ℕ) (error : ModelError) → IsAModel told model → error ≢ models.OutOfMemory → IsModelRefusal error (file_at told model) → ⊥
model_or_refused told model error is named refusal = named (not_refused (file_at told model) is.0 error is.1 refusal)

pub trace_or_refused : (told : Files) (trace : List ℕ) (error : TraceError) → IsATrace told trace → error ≢ errors.OutOfMemory → IsTraceRefusal error (file_at told trace) → ⊥
trace_or_refused told trace error is named refusal = named (trace_unrefused (file_at told trace) is.0 is.1 error is.2 refusal)

module _ (Refusal : TraceError → List ℕ → Type 0) (told : Files) (model trace : List ℕ) where
  abbrev Refuses' : Status → List ℕ → Type 0
  Refuses' status line = RefusesModel (Some told) model status line ⊎ RefusesRecords Refusal (Some told) model trace status line

  -- a model and a file of records that isn't refused are not refused
  pub good_files : (line : List ℕ) (status : Status) → IsAModel told model → ((error : TraceError) → error ≢ errors.OutOfMemory → Refusal error (file_at told trace) → ⊥) → Refuses' status line → ⊥
  good_files line status is_model are_records (inl refuses) = model_or_refused told model refuses.0 is_model refuses.1 refuses.4
  good_files line status is_model are_records (inr refuses) = are_records refuses.0 refuses.1 (refuses.4).1

  -- two refusals of the same files have one status
  pub one_status : (line other : List ℕ) (status later : Status) → Refuses' status line → Refuses' later other → status ≡ later
  one_status line other status later (inl a) (inl b) = a.2 ∙ sym b.2
  one_status line other status later (inl a) (inr b) = absurd (model_or_refused told model a.0 (b.4).0 a.1 a.4)
  one_status line other status later (inr a) (inl b) = absurd (model_or_refused told model b.0 (a.4).0 b.1 b.4)
  one_status line other status later (inr a) (inr b) = a.2 ∙ sym b.2

pub judge_ready : (files : Option Files) (model trace line : List ℕ) (status : Status) → IsReadyToJudge files model trace → RefusesToJudge files model trace status line → ⊥
judge_ready None model trace line status ready refuses = ready
judge_ready (Some told) model trace line status ready refuses = good_files IsTraceRefusal told model trace line status ready.0 (λ error named. trace_or_refused told trace error ready.1 named) refuses

pub judge_status : (told : Files) (model trace line other : List ℕ) (status later : Status) → RefusesToJudge (Some told) model trace status line → RefusesToJudge (Some told) model trace later other → status ≡ later
judge_status told model trace line other status later refuses too = one_status IsTraceRefusal told model trace line other status later refuses too
