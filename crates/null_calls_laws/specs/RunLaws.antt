-- The law on programs that have null calls round their marked calls (Giffin, Jha and Miller 2004).
use Rattle.std.specs.Prelude.{◌≡◌, ℕ, List}
use Rattle.dm_base.specs.Trace.{erase}
use Rattle.sys_table.specs.declared.sys_result.SysResult.{SysResult}
use Rattle.c_tree.specs.Tree.{Program}
use Rattle.c_tree.specs.Program.{IsProgram}
use Rattle.c_meaning.specs.NullCalls.{DifferInNullCalls}
use Rattle.c_meaning.specs.Runs.{run}
use Rattle.c_meaning.specs.WithoutNullCalls.{MakesNoNullCall}
use Rattle.null_calls_laws.specs.MarkedRuns.{marked_run}
use Rattle.null_calls_laws.specs.IsWithNullCalls.{IsWithNullCalls}
use Rattle.null_calls_laws.specs.InstrumentedPrograms.{instrumented_program}

-- the program with null calls round its marked calls does what the program does with those at its marked sites
abbrev pub InstrumentedRunsAreMarkedRuns : Type 0
InstrumentedRunsAreMarkedRuns =
    (p : Program) (n : ℕ) → IsProgram p n → (records : List SysResult) (turns : ℕ) → run (instrumented_program p) records turns ≡ marked_run p records turns

-- and so does that program with any numbers of its sites
abbrev pub InstrumentedRunMarked : Type 0
InstrumentedRunMarked =
    (p q : Program) (n : ℕ) → IsProgram p n → IsWithNullCalls p q → (records : List SysResult) (turns : ℕ) → run q records turns ≡ marked_run p records turns

-- its run ends as that of the program, makes the same system calls and writes the same bytes
abbrev pub InstrumentedAddNullCalls : Type 0
InstrumentedAddNullCalls =
    (p q : Program) (n : ℕ) → IsProgram p n → IsWithNullCalls p q → (records : List SysResult) (turns : ℕ) → DifferInNullCalls (run q records turns) (run p records turns)

-- and without its null calls its trace is that of the program, where this makes no null calls itself
abbrev pub ErasedInstrumentedRunAlike : Type 0
ErasedInstrumentedRunAlike =
    (p q : Program) (n : ℕ) → IsProgram p n → MakesNoNullCall p → IsWithNullCalls p q → (records : List SysResult) (turns : ℕ) → erase (run q records turns).trace ≡ (run p records turns).trace
