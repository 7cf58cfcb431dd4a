-- What the monitors of a program's graph say of its runs.
use Rattle.std.specs.Prelude.{ℕ, ◌≤◌, List, length}
use Rattle.dm_base.specs.declared.event.Event.{Event}
use Rattle.dm_base.specs.declared.verdict.Verdict.TheVariants.{Accepted}
use Rattle.dm_base.specs.Trace.{depth}
use Rattle.c_meaning.specs.SysResult.{SysResult}
use Rattle.c_meaning.specs.Which.TheVariants.{Callgraph, Stack, Dyck}
use Rattle.c_meaning.specs.Graph.{Graph}
use Rattle.c_meaning.specs.Verdict.{IsRejectedAt, IsVerdict}
use Rattle.c_tree.specs.Tree.{Program}
use Rattle.c_tree.specs.Program.{IsProgram}
use Rattle.c_meaning.specs.Runs.{run}
use Rattle.c_meaning.specs.WithoutNullCalls.{MakesNoNullCall}
use Rattle.c_meaning.specs.GraphOfProgram.{graph_of_program}
use Rattle.c_meaning.specs.MarkedRuns.{marked_run}

-- the whole trace is accepted by the callgraph monitor and by the stack monitor of the graph
pub record IsAcceptedByBoth (g : Graph) (bound : ℕ) (t : List Event) : Type 0 where
  pub callgraph : IsVerdict Callgraph g bound t (Accepted (length t))
  pub stack : IsVerdict Stack g bound t (Accepted (length t))

-- and by the Dyck monitor, where no more calls are open than its bound allows; it rejects no part of the trace
pub record IsAcceptedByAll (g : Graph) (bound : ℕ) (t : List Event) : Type 0 where
  pub others : IsAcceptedByBoth g bound t
  pub dyck : depth t ≤ bound → IsVerdict Dyck g bound t (Accepted (length t))
  pub never_rejected : (k : ℕ) → IsRejectedAt Dyck g bound t k → ⊥

-- each run of a well-typed program is accepted by the monitors of its graph
abbrev pub MonitorsAcceptRuns : Type 0
MonitorsAcceptRuns =
    (p : Program) (n : ℕ) → IsProgram p n → (records : List SysResult) (turns bound : ℕ) → IsAcceptedByBoth (graph_of_program p) bound (run p records turns).trace

-- and so is each run with null calls round the calls at marked sites, where the program makes no null calls itself
abbrev pub MonitorsAcceptMarkedRuns : Type 0
MonitorsAcceptMarkedRuns =
    (p : Program) (n : ℕ) → IsProgram p n → MakesNoNullCall p → (records : List SysResult) (turns bound : ℕ) → IsAcceptedByAll (graph_of_program p) bound (marked_run p records turns).trace
