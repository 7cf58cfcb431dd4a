-- A model and a trace in files, and why they are refused.
use Rattle.std.specs.Prelude.{◌≡◌, ◌≢◌, ◌⊎◌, ℕ, List, ◌++◌, Option, IfSome, IsSomeAnd, codes, decimal}
use Rattle.dm_base.specs.declared.event.Event.{Event}
use Rattle.dm_base.specs.declared.outcome.TraceEnd.{TraceEnd}
use Rattle.dm_base.specs.declared.verdict.Status.{Status}
use Rattle.dm_base.specs.declared.verdict.Status.TheVariants as statuses
use Rattle.dm_io.specs.Store.{Files, file_at, IsMissing}
use Rattle.flow_model.specs.Graph.{Graph}
use Rattle.model_file.specs.declared.error.ModelError.{ModelError}
use Rattle.model_file.specs.declared.error.ModelError.TheVariants as models
use Rattle.model_file.specs.Refusal.{IsModel, IsModelRefusal}
use Rattle.trace_file.specs.declared.error.TraceError.{TraceError}
use Rattle.trace_file.specs.declared.error.TraceError.TheVariants as traces
use Rattle.trace_file.specs.Trace.{IsTraceWithin, IsTraceRefusal}

abbrev pub IsAModel : Files → List ℕ → Type 0
IsAModel files name = (g : Graph) × IsModel (file_at files name) g

abbrev pub IsATrace : Files → List ℕ → Type 0
IsATrace files name = (t : List Event) × (end : TraceEnd) × IsTraceWithin (file_at files name) t end

-- the line of a refused model; the empty text is that of none
abbrev pub model_refusal : ModelError → List ℕ
model_refusal models.OutOfMemory = codes "out of memory\n"
model_refusal (models.BadLine k) = codes "model refused M1 line " ++ decimal k ++ codes "\n"
model_refusal (models.Invalid rule) = codes "model refused M2 rule " ++ decimal rule ++ codes "\n"
model_refusal models.Truncated = codes "model refused M3\n"
model_refusal models.TooLarge = codes "model refused M4\n"
model_refusal models.Version = codes "model refused M5\n"

-- the line of a refused trace, or of refused interleaved traces
abbrev pub trace_refusal : TraceError → List ℕ
trace_refusal traces.OutOfMemory = codes "out of memory\n"
trace_refusal (traces.BadLine k) = codes "record refused X1 line " ++ decimal k ++ codes "\n"
trace_refusal traces.NoEnd = codes "record refused X2\n"
trace_refusal traces.TooLong = codes "record refused X3\n"
trace_refusal (traces.TooManyProcesses k) = codes "record refused X4 line " ++ decimal k ++ codes "\n"
trace_refusal traces.Version = codes "record refused X5\n"

-- the model is refused, with this status and this line
abbrev pub RefusesModel : Option Files → List ℕ → Status → List ℕ → Type 0
RefusesModel files model status line =
    (error : ModelError) × (error ≢ models.OutOfMemory) × (status ≡ statuses.ModelRefused) × (line ≡ model_refusal error)
    × IfSome files (λ told. IsModelRefusal error (file_at told model))

-- the model is one, and the file of the records is refused for one of these reasons, with this status and this line
abbrev pub RefusesRecords : (TraceError → List ℕ → Type 0) → Option Files → List ℕ → List ℕ → Status → List ℕ → Type 0
RefusesRecords Refusal files model trace status line =
    (error : TraceError) × (error ≢ traces.OutOfMemory) × (status ≡ statuses.RecordRefused) × (line ≡ trace_refusal error)
    × IfSome files (λ told. IsAModel told model × Refusal error (file_at told trace))

-- the files are read and refused in this order
abbrev pub RefusesToJudge : Option Files → List ℕ → List ℕ → Status → List ℕ → Type 0
RefusesToJudge files model trace status line = RefusesModel files model status line ⊎ RefusesRecords IsTraceRefusal files model trace status line

-- the model isn't there, or the file of the records isn't there and the model is one
abbrev pub LacksToJudge : Option Files → List ℕ → List ℕ → Type 0
LacksToJudge files model trace = IsMissing files model ⊎ (IsMissing files trace × IfSome files (λ told. IsAModel told model))

-- both files are told, and are a model and a trace
abbrev pub IsReadyToJudge : Option Files → List ℕ → List ℕ → Type 0
IsReadyToJudge files model trace = IsSomeAnd files (λ told. IsAModel told model × IsATrace told trace)
