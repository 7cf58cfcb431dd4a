-- For private contracts and proofs alone: why recorded results were not read.
use Rattle.std.specs.Prelude.{◌≡◌, ◌≢◌, ℕ, List, Option, IfSome}
use Rattle.dm_base.specs.declared.verdict.Status.{Status}
use Rattle.dm_base.specs.declared.verdict.Status.TheVariants as statuses
use Rattle.dm_io.specs.Store.{Files, file_at}
use Rattle.sys_table.specs.declared.results_error.ResultsError.{ResultsError}
use Rattle.sys_table.specs.declared.results_error.ResultsError.TheVariants as errors
use Rattle.sys_table.specs.ResultsText.{IsResultsRefusal}
use Rattle.tool_frame.specs.declared.stop.Stop.{Stop}
use Rattle.tool_frame.specs.declared.stop.Stop.TheVariants as stops
use Rattle.tool_steps.specs.Results.{results_refusal}

-- the stop of results that were refused so
abbrev pub IsStopOfResults : Stop → ResultsError → Type 0
IsStopOfResults stops.Usage error = ⊥
IsStopOfResults (stops.Source line) error = ⊥
IsStopOfResults (stops.Model line) error = ⊥
IsStopOfResults (stops.Record line) error = (error ≢ errors.OutOfMemory) × (line.items ≡ results_refusal error)
IsStopOfResults stops.Read error = ⊥
IsStopOfResults stops.Write error = ⊥
IsStopOfResults stops.OutOfMemory error = Unit {0}

-- the file of results is refused, with this status and this line
abbrev pub RefusesResultsAlone : Option Files → List ℕ → Status → List ℕ → Type 0
RefusesResultsAlone files results status line =
    (error : ResultsError) × (error ≢ errors.OutOfMemory) × (status ≡ statuses.RecordRefused) × (line ≡ results_refusal error)
    × IfSome files (λ told. IsResultsRefusal error (file_at told results))
