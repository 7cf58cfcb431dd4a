-- Instrumented programs in a fleet: no false alarm (Wagner and Dean 2001; Giffin, Jha and Miller 2004).
use Rattle.std.specs.Prelude.{◌≡◌, ℕ, ◌+◌, ◌<◌, ◌≤◌, List, take}
use Rattle.dm_base.specs.declared.event.Event.{Event}
use Rattle.dm_base.specs.declared.mode.Mode.TheVariants.{Plain}
use Rattle.dm_base.specs.Trace.{depth}
use Rattle.dm_io.specs.Store.{Files, file_at}
use Rattle.c_meaning.specs.Runs.{run}
use Rattle.c_rules.specs.Accepted.{IsAcceptedAs}
use Rattle.c_tree.specs.Tree.{Program}
use Rattle.tool_fleet.specs.Standing.{Standing}
use Rattle.tool_fleet.specs.Standing.TheVariants as standings
use Rattle.fleet_schedule.specs.declared.line.Line.{Line}
use Rattle.c_meaning.specs.GraphOfProgram.{graph_of_program}
use Rattle.flow_model.specs.declared.which.Which.{Which}
use Rattle.flow_model.specs.declared.which.Which.TheVariants.{Dyck}
use Rattle.headline.specs.Headline.{IsWithinBound}
use Rattle.model_file.specs.Refusal.{IsModel}
use Rattle.headline.specs.InstrumentedTexts.{instrumented_text}
use Rattle.tool_fleet.specs.declared.reports.ProcessReport.{ProcessReport}
use Rattle.tool_fleet.specs.Fleet.{IsReportOf}

-- the event with this number, counted from 1, is the first that opens one call more than the bound allows
pub record OpensTooMany (bound : ℕ) (t : List Event) (m : ℕ) : Type 0 where
  pub deep : depth (take m t) ≡ bound + 1
  pub before : (j : ℕ) → j < m → depth (take j t) ≤ bound

-- Of the events of this trace none is rejected; the Dyck monitor refuses the first that opens one call more than its bound allows, and no other one.
abbrev pub IsNoAlarm : Which → ℕ → List Event → Standing → Type 0
IsNoAlarm which bound t (standings.Open n) = IsWithinBound which bound (take n t)
IsNoAlarm which bound t (standings.Ended n outcome) = IsWithinBound which bound t
IsNoAlarm which bound t (standings.Rejected m e) = ⊥
IsNoAlarm which bound t (standings.Bound m e) = (which ≡ Dyck) × OpensTooMany bound t m

-- where one file of a process has the instrumented text of a text that is accepted as p, and another the model of p, what `fleet` reports of the process is no alarm
abbrev pub FleetsRaiseNoAlarm : Type 0
FleetsRaiseNoAlarm =
    (files : Files) (which : Which) (order : List ℕ) (l : Line) (report : ProcessReport) (is : IsReportOf files which order l report)
    → (text : List ℕ) (p : Program) (reading : IsAcceptedAs text Plain p) → file_at files l.file ≡ instrumented_text p reading.unit → IsModel (file_at files l.model) (graph_of_program p)
    → IsNoAlarm which l.bound (run is.process.program is.process.records l.turns).trace report.standing
