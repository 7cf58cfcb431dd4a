-- What `run FILE RESULTS TURNS` makes of its files, and why it refuses them.
use Rattle.tool_steps.specs.Results.{run_text, AreSomeResults, results_refusal}
use Rattle.std.specs.Prelude.{◌≡◌, ◌≢◌, ◌⊎◌, ℕ, List, Option, IfSome, IsSomeAnd}
use Rattle.dm_base.specs.declared.mode.Mode.TheVariants.{Instrumented}
use Rattle.dm_base.specs.declared.outcome.TraceEnd.TheVariants.{Ended}
use Rattle.dm_base.specs.declared.verdict.Status.{Status}
use Rattle.dm_base.specs.declared.verdict.Status.TheVariants as statuses
use Rattle.dm_io.specs.Store.{Files, file_at, IsMissing}
use Rattle.c_meaning.specs.Runs.{run}
use Rattle.c_rules.specs.Accepted.{IsAcceptedAs}
use Rattle.c_tree.specs.Tree.{Program}
use Rattle.tool_steps.specs.Sources.{RefusesSource}
use Rattle.sys_table.specs.declared.results_error.ResultsError.{ResultsError}
use Rattle.sys_table.specs.declared.results_error.ResultsError.TheVariants.{OutOfMemory}
use Rattle.sys_table.specs.declared.sys_result.SysResult.{SysResult}
use Rattle.sys_table.specs.ResultsText.{AreResultsWithin, IsResultsRefusal}
use Rattle.trace_file.specs.Trace.{IsTrace}

-- the one file's text is accepted as a program, the other's is that of recorded results, and the text is that of the trace of the
-- program's run with these results and so many turns (C99 5.1.2.3)
pub record Runs (files : Files) (source results : List ℕ) (turns : ℕ) (text : List ℕ) : Type 0 where
  pub program : Program
  pub records : List SysResult
  pub accepted : IsAcceptedAs (file_at files source) Instrumented program
  pub recorded : AreResultsWithin (file_at files results) records
  pub is : text ≡ run_text (run program records turns)
  pub formed : IsTrace text (run program records turns).trace (Ended (run program records turns).outcome)

abbrev pub IsSomeProgram : Files → List ℕ → Type 0
IsSomeProgram files name = (p : Program) × IsAcceptedAs (file_at files name) Instrumented p

-- the source is a program, and the file of results is refused, with this status and this line
abbrev pub RefusesResults : Option Files → List ℕ → List ℕ → Status → List ℕ → Type 0
RefusesResults files source results status line =
    (error : ResultsError) × (error ≢ OutOfMemory) × (status ≡ statuses.RecordRefused) × (line ≡ results_refusal error)
    × IfSome files (λ told. IsSomeProgram told source × IsResultsRefusal error (file_at told results))

-- the files are read and refused in this order
abbrev pub RefusesToRun : Option Files → List ℕ → List ℕ → Status → List ℕ → Type 0
RefusesToRun files source results status line = RefusesSource Instrumented files source status line ⊎ RefusesResults files source results status line

-- the source isn't there, or the file of results isn't there and the source is a program
abbrev pub LacksToRun : Option Files → List ℕ → List ℕ → Type 0
LacksToRun files source results = IsMissing files source ⊎ (IsMissing files results × IfSome files (λ told. IsSomeProgram told source))

-- both files are told, and are a program and recorded results
abbrev pub IsReadyToRun : Option Files → List ℕ → List ℕ → Type 0
IsReadyToRun files source results = IsSomeAnd files (λ told. IsSomeProgram told source × AreSomeResults told results)
