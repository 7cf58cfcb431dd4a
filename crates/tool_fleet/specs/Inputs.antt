-- For private contracts and proofs alone: what the files of a schedule are read as, why they are not read, and what a fleet makes of them.
use Rattle.std.specs.Prelude.{◌≡◌, ◌≢◌, ◌⊎◌, ℕ, ◌<◌, ◌≤◌, false, List, [], ◌∷◌, ◌++◌, All, AllPairs, Contains, Option, Some, IfSome, length, map, slice_get}
use Rattle.std.specs.List.{AllZip}
use Rattle.dm_base.specs.declared.mode.Mode.TheVariants.{Instrumented}
use Rattle.dm_base.specs.declared.verdict.Status.{Status}
use Rattle.dm_io.specs.Store.{Files, file_at, IsMissing}
use Rattle.c_meaning.specs.Runs.{run}
use Rattle.c_rules.specs.Accepted.{IsAcceptedAs}
use Rattle.c_tree.specs.View.{program_of}
use Rattle.fleet.specs.Alone.{IsAlone, IsTellable}
use Rattle.fleet.specs.Members.{Group, Member}
use Rattle.fleet_schedule.specs.declared.error.ScheduleError.{ScheduleError}
use Rattle.fleet_schedule.specs.declared.error.ScheduleError.TheVariants as errors
use Rattle.fleet_schedule.specs.declared.line.Line.{Line}
use Rattle.flow_model.specs.declared.which.Which.{Which}
use Rattle.model_file.specs.Refusal.{IsModel}
use Rattle.sys_table.specs.ResultsText.{AreResultsWithin}
use Rattle.tool_files.specs.Inputs.{IsAModel, RefusesModel}
use Rattle.tool_fleet.specs.declared.inputs.GroupModel.{GroupModel}
use Rattle.tool_fleet.specs.declared.inputs.Inputs.{Inputs}
use Rattle.tool_fleet.specs.declared.inputs.ProcessInput.{ProcessInput}
use Rattle.tool_fleet.specs.declared.reports.ProcessReport.{ProcessReport}
use Rattle.tool_fleet.specs.Fleet.{RefusesResults, advances_of, fleet_text, schedule_refusal, status_of_all}
use Rattle.tool_frame.specs.declared.stop.Stop.{Stop}
use Rattle.tool_frame.specs.declared.stop.Stop.TheVariants as stops

-- the stop of a schedule that was refused so
abbrev pub IsStopOfSchedule : Stop → ScheduleError → Type 0
IsStopOfSchedule stops.Usage error = ⊥
IsStopOfSchedule (stops.Source line) error = ⊥
IsStopOfSchedule (stops.Model line) error = ⊥
IsStopOfSchedule (stops.Record line) error = (error ≢ errors.OutOfMemory) × (line.items ≡ schedule_refusal error)
IsStopOfSchedule stops.Read error = ⊥
IsStopOfSchedule stops.Write error = ⊥
IsStopOfSchedule stops.OutOfMemory error = Unit {0}

-- the model is that of its file, and the bound is one of the Dyck model
pub record IsGroupModel (told : Option Files) (g : GroupModel) : Type 0 where
  pub least : 1 ≤ g.bound
  pub greatest : g.bound ≤ 65535
  pub is_model : IfSome told (λ files. IsModel (file_at files g.name) g.model)

-- of the groups before and after a model was found or read for the line: they are the same, or one more; the group at this place has the line's model and bound
pub record HasGroup (told : Option Files) (l : Line) (old new : List GroupModel) (place : ℕ) : Type 0 where
  pub more : List GroupModel
  pub grown : new ≡ old ++ more
  pub few : length more ≤ 1
  pub models : All (IsGroupModel told) new
  pub group : GroupModel
  pub there : slice_get new place ≡ Some group
  pub bound : group.bound ≡ l.bound
  pub is_model : IfSome told (λ files. IsModel (file_at files l.model) group.model)

-- the files of the line's process were read as these
pub record IsRead (told : Option Files) (groups : List GroupModel) (l : Line) (p : ProcessInput) : Type 0 where
  pub pid : p.pid ≡ l.pid
  pub turns : p.turns ≡ l.turns
  pub group : GroupModel
  pub there : slice_get groups p.group ≡ Some group
  pub bound : group.bound ≡ l.bound
  pub is_model : IfSome told (λ files. IsModel (file_at files l.model) group.model)
  pub accepted : IfSome told (λ files. IsAcceptedAs (file_at files l.file) Instrumented (program_of p.program))
  pub recorded : IfSome told (λ files. AreResultsWithin (file_at files l.results) p.results.items)

-- so were those of all these lines
pub record AreRead (told : Option Files) (lines : List Line) (groups : List GroupModel) (processes : List ProcessInput) : Type 0 where
  pub each : AllZip (IsRead told groups) lines processes
  pub models : All (IsGroupModel told) groups
  pub few : length groups ≤ length lines

-- one process more was read, and maybe one model more
pub record ReadsProcess (told : Option Files) (l : Line) (old new : List GroupModel) (p : ProcessInput) : Type 0 where
  pub more : List GroupModel
  pub grown : new ≡ old ++ more
  pub few : length more ≤ 1
  pub models : All (IsGroupModel told) new
  pub is : IsRead told new l p

-- and was put behind the others
pub record ReadsNext (told : Option Files) (l : Line) (old new : Inputs) : Type 0 where
  pub process : ProcessInput
  pub pushed : new.processes.items ≡ old.processes.items ++ process ∷ []
  pub reads : ReadsProcess told l old.groups.items new.groups.items process

-- the model and the results of a process are read and refused in this order
abbrev pub RefusesOthers : Option Files → Line → Status → List ℕ → Type 0
RefusesOthers files l status line =
    RefusesModel files l.model status line ⊎ (IfSome files (λ told. IsAModel told l.model) × RefusesResults files l.results status line)

-- and where they aren't there
abbrev pub LacksOthers : Option Files → Line → Type 0
LacksOthers files l = IsMissing files l.model ⊎ (IfSome files (λ told. IsAModel told l.model) × IsMissing files l.results)

-- the group of a model in a fleet
abbrev pub group_of : GroupModel → Group
group_of g = record { model = g.model; bound = g.bound }

-- the numbers of the processes
abbrev pub numbers : List ProcessInput → List ℕ
numbers processes = map (λ p. p.pid) processes

-- the process in a fleet, after these advances
abbrev pub member_after : List ℕ → ProcessInput → Member
member_after order p =
    record { pid = p.pid; group = p.group; program = program_of p.program; results = p.results.items; turns = p.turns; advances = advances_of order p.pid; failed = false }

-- what a fleet is made of: few groups with bounds of the Dyck model, few processes that are each in one of them and have numbers of their own, and advances of these
pub record MayRun (groups : List GroupModel) (processes : List ProcessInput) (order : List ℕ) : Type 0 where
  pub bounds : (k : ℕ) (g : GroupModel) → slice_get groups k ≡ Some g → (1 ≤ g.bound) × (g.bound ≤ 65535)
  pub few_groups : length groups ≤ 64
  pub few : length processes ≤ 64
  pub within : (k : ℕ) (p : ProcessInput) → slice_get processes k ≡ Some p → p.group < length groups
  pub differ : AllPairs (λ a b. a ≢ b) (numbers processes)
  pub named : All (Contains (numbers processes)) order
  pub short : length order ≤ 1000000

-- the report of a process is what it has come to alone
pub record IsReported (which : Which) (groups : List GroupModel) (order : List ℕ) (p : ProcessInput) (report : ProcessReport) : Type 0 where
  pub pid : report.pid ≡ p.pid
  pub alone : (g : GroupModel) → slice_get groups p.group ≡ Some g → IsAlone which g.model g.bound (run (program_of p.program) p.results.items p.turns) (advances_of order p.pid) report.standing

-- the text tells what the processes have come to, and the status is theirs
pub record IsFinishedRun (which : Which) (groups : List GroupModel) (processes : List ProcessInput) (order : List ℕ) (status : Status) (text : List ℕ) : Type 0 where
  pub reports : List ProcessReport
  pub reported : AllZip (IsReported which groups order) processes reports
  pub ends : status ≡ status_of_all reports
  pub writes : text ≡ fleet_text reports

-- its event and its outcome are such as a trace file holds
abbrev pub IsTellableReport : ProcessReport → Type 0
IsTellableReport report = IsTellable report.standing
