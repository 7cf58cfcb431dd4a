-- A run can be written as a trace, and results that were read are passed on.
use Rattle.std.proofs.Common.{◌≡◌, ℕ, List, All, Option, IfSome, sym, subst}
use Rattle.std.proofs.lemmas.List.Elements.{All-nil}
use Rattle.dm_base.specs.declared.outcome.Outcome.{Outcome}
use Rattle.dm_base.specs.declared.outcome.Outcome.TheVariants.{Exit, Undefined, Turns, Results, BadResult}
use Rattle.dm_base.specs.declared.outcome.TraceEnd.TheVariants.{Ended}
use Rattle.dm_io.specs.Store.{Files, file_at}
use Rattle.ref_machine.specs.Runs.{Run, run, no_marks}
use Rattle.c_tree.specs.Program.{IsProgram}
use Rattle.c_tree.specs.Tree.{Program}
use Rattle.ref_machine.specs.declared.whole.Run.{Run as Found}
use Rattle.ref_machine.specs.WholeRuns.{run_of}
use Rattle.sys_table.specs.declared.sys_result.SysResult.{SysResult}
use Rattle.sys_table.specs.ResultsText.{AreResultsWithin}
use Rattle.sys_table.specs.Table.{IsRecorded}
use Rattle.trace_file.specs.EventText.{IsCountedOutcome, IsCountedEnd}
use Rattle.ref_machine.specs.Laws.{IsTypedRun, RunsAreTyped}
use Rattle.ref_machine.specs.TypedResults.{IsEnding}

-- what the run is, which was found so
typed_run : (typed : RunsAreTyped) (p : Program) (n : ℕ) → IsProgram p n → (records : List SysResult) (turns : ℕ) → IsTypedRun (run p records turns)
typed_run typed p n is records turns = typed p n is no_marks (λ site. (All-nil IsRecorded, All-nil IsRecorded)) records turns

pub events_recorded : (typed : RunsAreTyped) (p : Program) (n : ℕ) → IsProgram p n → (records : List SysResult) (turns : ℕ) (found : Found) → run_of found ≡ run p records turns → All IsRecorded found.trace.items
events_recorded typed p n is records turns found same = subst (λ (r : Run). All IsRecorded r.trace) (sym same) (typed_run typed p n is records turns).trace

pub counted : (o : Outcome) → IsEnding o → IsCountedOutcome o
counted (Exit z) h = tt
counted (Undefined kind) h = tt
counted Turns h = tt
counted Results h = tt
counted (BadResult k) h = h

pub end_counted : (typed : RunsAreTyped) (p : Program) (n : ℕ) → IsProgram p n → (records : List SysResult) (turns : ℕ) (found : Found) → run_of found ≡ run p records turns → IsCountedEnd (Ended found.outcome)
end_counted typed p n is records turns found same =
    counted found.outcome (subst (λ (r : Run). IsEnding r.outcome) (sym same) (typed_run typed p n is records turns).outcome)

-- the results that were read after the source, as they are passed on
pub read_so : (told mid : Option Files) (results : List ℕ) (records seen : List SysResult) → mid ≡ told → seen ≡ records → IfSome mid (λ files. AreResultsWithin (file_at files results) records) → IfSome told (λ files. AreResultsWithin (file_at files results) seen)
read_so told mid results records seen same are read =
    subst (λ (t : Option Files). IfSome t (λ files. AreResultsWithin (file_at files results) seen)) same
    (subst (λ (w : List SysResult). IfSome mid (λ files. AreResultsWithin (file_at files results) w)) (sym are) read)
