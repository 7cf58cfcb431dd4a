-- No false alarm: what a well-typed program does is in its languages, however the run ends (Wagner and Dean 2001).
use Rattle.std.specs.Prelude.{ℕ, List}
use Rattle.c_meaning.specs.SysResult.{SysResult}
use Rattle.c_tree.specs.Tree.{Program}
use Rattle.c_tree.specs.Program.{IsProgram}
use Rattle.c_meaning.specs.ProgramLanguages.{Dyck, Stack, Callgraph}
use Rattle.c_meaning.specs.Runs.{run}
use Rattle.c_meaning.specs.WithoutNullCalls.{MakesNoNullCall}
use Rattle.c_meaning.specs.MarkedRuns.{marked_run}

-- the trace of each run of the program is a word of its stack language and of its callgraph language
abbrev pub RunsAreWords : Program → Type 0
RunsAreWords p =
    (records : List SysResult) (turns : ℕ) → Stack p (run p records turns).trace × Callgraph p (run p records turns).trace

-- and that of each run with null calls round the calls at marked sites is a word of its Dyck language
abbrev pub MarkedRunsAreWords : Program → Type 0
MarkedRunsAreWords p = (records : List SysResult) (turns : ℕ) → Dyck p (marked_run p records turns).trace

-- for each well-typed program
abbrev pub RunsRaiseNoAlarm : Type 0
RunsRaiseNoAlarm = (p : Program) (n : ℕ) → IsProgram p n → RunsAreWords p

-- for each that makes no null calls itself
abbrev pub MarkedRunsRaiseNoAlarm : Type 0
MarkedRunsRaiseNoAlarm =
    (p : Program) (n : ℕ) → IsProgram p n → MakesNoNullCall p → MarkedRunsAreWords p
