-- Why a model and a file of records were not followed.
use Rattle.std.specs.Prelude.{◌⊎◌}
use Rattle.std.proofs.Common.{ℕ, ◌≤◌, List, arith, Option, Some, None, IfSome, inl, inr, refl}
use Rattle.dm_io.specs.Store.{Files, file_at}
use Rattle.flow_model.specs.Graph.{Graph}
use Rattle.model_file.specs.Refusal.{IsModel}
use Rattle.trace_file.specs.declared.error.TraceError.{TraceError}
use Rattle.trace_file.specs.declared.record.Record.{Record}
use Rattle.tool_frame.specs.declared.stop.Stop.{Stop}
use Rattle.tool_frame.specs.declared.stop.Stop.TheVariants as stops
use Rattle.tool_files.specs.Inputs.{IsAModel, RefusesModel, RefusesRecords, LacksToJudge}
use Rattle.tool_files.specs.Reading.{StopsModel, StopsFile}
use Rattle.tool_frame.specs.Stop.{Stops}

-- why judging or watching stopped, once the model was read
pub stops_following : (Refusal : TraceError → List ℕ → Type 0) (told : Option Files) (model trace : List ℕ) (g : Graph) (stop : Stop) (before middle after : ℕ) → before ≤ middle → IfSome told (λ files. IsModel (file_at files model) g) → StopsFile Refusal stop told trace middle after
    → Stops stop (λ status line. RefusesModel told model status line ⊎ RefusesRecords Refusal told model trace status line) (LacksToJudge told model trace) before after
stops_following Refusal told model trace g stops.Usage before middle after le is why = why
stops_following Refusal told model trace g (stops.Source line) before middle after le is why = absurd why
stops_following Refusal told model trace g (stops.Model line) before middle after le is why = absurd why
stops_following Refusal told model trace g (stops.Record line) before middle after le is why = inr (why.0, why.1, refl, why.2, with_model told is why.3)
  where
    with_model : (t : Option Files) → IfSome t (λ files. IsModel (file_at files model) g) → IfSome t (λ files. Refusal why.0 (file_at files trace)) → IfSome t (λ files. IsAModel files model × Refusal why.0 (file_at files trace))
    with_model None is refusal = tt
    with_model (Some files) is refusal = ((g, is), refusal)
stops_following Refusal told model trace g stops.Read before middle after le is (inl (inl rose)) = inl (inl (omega (arith, rose, le)))
stops_following Refusal told model trace g stops.Read before middle after le is (inl (inr most)) = inl (inr most)
stops_following Refusal told model trace g stops.Read before middle after le is (inr missing) = inr (inr (missing, with_model told is))
  where
    with_model : (t : Option Files) → IfSome t (λ files. IsModel (file_at files model) g) → IfSome t (λ files. IsAModel files model)
    with_model None is = tt
    with_model (Some files) is = (g, is)
stops_following Refusal told model trace g stops.Write before middle after le is why = why
stops_following Refusal told model trace g stops.OutOfMemory before middle after le is why = tt

-- why judging or watching stopped before the model was read
pub stops_before : (Refusal : TraceError → List ℕ → Type 0) (told : Option Files) (model trace : List ℕ) (stop : Stop) (before after : ℕ) → StopsModel stop told model before after
    → Stops stop (λ status line. RefusesModel told model status line ⊎ RefusesRecords Refusal told model trace status line) (LacksToJudge told model trace) before after
stops_before Refusal told model trace stops.Usage before after why = why
stops_before Refusal told model trace (stops.Source line) before after why = absurd why
stops_before Refusal told model trace (stops.Model line) before after why = inl why
stops_before Refusal told model trace (stops.Record line) before after why = absurd why
stops_before Refusal told model trace stops.Read before after (inl rose) = inl rose
stops_before Refusal told model trace stops.Read before after (inr missing) = inr (inl missing)
stops_before Refusal told model trace stops.Write before after why = why
stops_before Refusal told model trace stops.OutOfMemory before after why = tt
