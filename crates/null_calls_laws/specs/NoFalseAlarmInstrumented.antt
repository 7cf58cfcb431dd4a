-- No false alarm on a program with null calls round its marked calls: what it does is in the languages of the program itself, and the
-- monitors of that program's graph accept it.
use Rattle.std.specs.Prelude.{ℕ, List}
use Rattle.sys_table.specs.declared.sys_result.SysResult.{SysResult}
use Rattle.c_tree.specs.Tree.{Program}
use Rattle.c_tree.specs.Program.{IsProgram}
use Rattle.c_meaning.specs.ProgramLanguages.{Dyck}
use Rattle.c_meaning.specs.Runs.{run}
use Rattle.c_meaning.specs.WithoutNullCalls.{MakesNoNullCall}
use Rattle.c_meaning.specs.GraphOfProgram.{graph_of_program}
use Rattle.null_calls_laws.specs.Monitors.{IsAcceptedByAll}
use Rattle.null_calls_laws.specs.IsWithNullCalls.{IsWithNullCalls}

-- the trace of each of its runs is a word of the program's Dyck language
abbrev pub InstrumentedRunsAreWords : Type 0
InstrumentedRunsAreWords =
    (p q : Program) (n : ℕ) → IsProgram p n → MakesNoNullCall p → IsWithNullCalls p q → (records : List SysResult) (turns : ℕ) → Dyck p (run q records turns).trace

-- each of its runs is accepted by the three monitors of the program's graph; by the Dyck monitor where no more calls are open than its
-- bound allows
abbrev pub MonitorsAcceptInstrumentedRuns : Type 0
MonitorsAcceptInstrumentedRuns =
    (p q : Program) (n : ℕ) → IsProgram p n → MakesNoNullCall p → IsWithNullCalls p q → (records : List SysResult) (turns bound : ℕ) → IsAcceptedByAll (graph_of_program p) bound (run q records turns).trace
