-- Runs with null calls round the calls at marked sites (Giffin, Jha and Miller 2004).
use Rattle.std.specs.Prelude.{◌≡◌, ℕ, List, [], ◌∷◌, if◌then◌else◌}
use Rattle.dm_base.specs.declared.event.Event.TheVariants.{Pre, Post}
use Rattle.dm_base.specs.Trace.{erase}
use Rattle.c_meaning.specs.SysResult.{SysResult}
use Rattle.c_tree.specs.Tree.{Program}
use Rattle.c_meaning.specs.CallGraph.{marked}
use Rattle.c_meaning.specs.Meaning.{Marks}
use Rattle.c_meaning.specs.NullCalls.{DifferInNullCalls}
use Rattle.c_meaning.specs.Runs.{Run, run, run_with}
use Rattle.c_meaning.specs.WithoutNullCalls.{MakesNoNullCall}

-- the null calls before and after a call: those of its site, where some function that may be called there may come to a system call
abbrev pub null_calls_of : Program → Marks
null_calls_of p site = if marked p site then (Pre site ∷ [], Post site ∷ []) else ([], [])

-- the run with null calls round the calls at marked sites
abbrev pub marked_run : Program → List SysResult → ℕ → Run
marked_run p records turns = run_with p (null_calls_of p) records turns

-- a marked run ends as the run does, makes the same system calls and writes the same bytes
abbrev pub MarkedRunsDifferInNullCalls : Type 0
MarkedRunsDifferInNullCalls =
    (p : Program) (records : List SysResult) (turns : ℕ) → DifferInNullCalls (marked_run p records turns) (run p records turns)

-- and without its null calls its trace is that of the run, where the program makes no null calls itself
abbrev pub ErasedMarkedRunsAreRuns : Type 0
ErasedMarkedRunsAreRuns =
    (p : Program) → MakesNoNullCall p → (records : List SysResult) (turns : ℕ) → erase (marked_run p records turns).trace ≡ (run p records turns).trace
