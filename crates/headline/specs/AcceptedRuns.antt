-- No false alarm on a text: what a program does that a text is accepted as (Wagner and Dean 2001; Giffin, Jha and Miller 2004).
use Rattle.std.specs.Prelude.{◌≡◌, ℕ, List}
use Rattle.dm_base.specs.declared.mode.Mode.TheVariants.{Plain}
use Rattle.dm_base.specs.Trace.{erase}
use Rattle.sys_table.specs.declared.sys_result.SysResult.{SysResult}
use Rattle.flow_model.specs.declared.which.Which.TheVariants.{Callgraph, Stack, Dyck}
use Rattle.flow_model.specs.Language.{Reads}
use Rattle.c_tree.specs.Tree.{Program}
use Rattle.c_meaning.specs.ProgramLanguages as program
use Rattle.c_rules.specs.Accepted.{IsAcceptedAs}
use Rattle.c_meaning.specs.Runs.{run}
use Rattle.c_meaning.specs.Equal.{AreEqual}
use Rattle.c_meaning.specs.GraphOfProgram.{graph_of_program}
use Rattle.null_calls_laws.specs.MarkedRuns.{marked_run}
use Rattle.null_calls_laws.specs.NoFalseAlarm.{RunsAreWords, MarkedRunsAreWords}
use Rattle.null_calls_laws.specs.Monitors.{IsAcceptedByBoth, IsAcceptedByAll}

-- the graph of the program has the program's three languages
pub record HasTheWords (p : Program) : Type 0 where
  pub callgraph : AreEqual (program.Callgraph p) (Reads Callgraph (graph_of_program p))
  pub stack : AreEqual (program.Stack p) (Reads Stack (graph_of_program p))
  pub dyck : AreEqual (program.Dyck p) (Reads Dyck (graph_of_program p))

-- Whatever the recorded results, the turns and the bound of open calls are: the runs of the program, and those with null calls round its
-- marked calls, are words of its languages, and the monitors of its graph say so.
pub record RaisesNoAlarm (p : Program) : Type 0 where
  pub words : RunsAreWords p
  pub marked_words : MarkedRunsAreWords p
  pub graph : HasTheWords p
  pub accepted : (records : List SysResult) (turns bound : ℕ) → IsAcceptedByBoth (graph_of_program p) bound (run p records turns).trace
  pub marked_accepted : (records : List SysResult) (turns bound : ℕ) → IsAcceptedByAll (graph_of_program p) bound (marked_run p records turns).trace
  pub erased : (records : List SysResult) (turns : ℕ) → erase (marked_run p records turns).trace ≡ (run p records turns).trace

-- for each text that is accepted in the mode Plain
abbrev pub TextsRaiseNoAlarm : Type 0
TextsRaiseNoAlarm = (text : List ℕ) (p : Program) → IsAcceptedAs text Plain p → RaisesNoAlarm p
