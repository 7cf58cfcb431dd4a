-- What `fleet SCHEDULE WHICH` makes of its files, and why it refuses them.
use Rattle.std.specs.Prelude.{◌≡◌, ◌≢◌, ◌⊎◌, ℕ, Bool, true, false, nat_eq, if◌then◌else◌, List, [], ◌∷◌, ◌++◌, All, filter, flat_map, length, Option, IfSome, IsSomeAnd, codes, decimal}
use Rattle.std.specs.List.{AllZip}
use Rattle.dm_base.specs.declared.mode.Mode.TheVariants.{Instrumented}
use Rattle.dm_base.specs.declared.verdict.Status.{Status}
use Rattle.dm_base.specs.declared.verdict.Status.TheVariants as statuses
use Rattle.dm_io.specs.Store.{Files, file_at, IsMissing}
use Rattle.c_meaning.specs.Runs.{run}
use Rattle.c_rules.specs.Accepted.{IsAcceptedAs}
use Rattle.c_tree.specs.Tree.{Program}
use Rattle.fleet.specs.declared.standing.Standing.{Standing}
use Rattle.fleet.specs.declared.standing.Standing.TheVariants as standings
use Rattle.fleet.specs.Alone.{IsAlone}
use Rattle.fleet_schedule.specs.declared.error.ScheduleError.{ScheduleError}
use Rattle.fleet_schedule.specs.declared.error.ScheduleError.TheVariants.{OutOfMemory, BadLine, NoEnd, TooLong, Version}
use Rattle.fleet_schedule.specs.declared.line.Line.{Line}
use Rattle.fleet_schedule.specs.Plan.{Plan}
use Rattle.fleet_schedule.specs.ScheduleText.{IsScheduleWithin, IsScheduleRefusal}
use Rattle.flow_model.specs.declared.which.Which.{Which}
use Rattle.flow_model.specs.Graph.{Graph}
use Rattle.model_file.specs.Refusal.{IsModel}
use Rattle.sys_table.specs.declared.results_error.ResultsError.{ResultsError}
use Rattle.sys_table.specs.declared.results_error.ResultsError.TheVariants as results
use Rattle.sys_table.specs.declared.sys_result.SysResult.{SysResult}
use Rattle.sys_table.specs.ResultsText.{AreResultsWithin, IsResultsRefusal}
use Rattle.trace_file.specs.EventText.{event_text, outcome_text}
use Rattle.tool_files.specs.Inputs.{IsAModel, RefusesModel}
use Rattle.tool_fleet.specs.declared.reports.ProcessReport.{ProcessReport}
use Rattle.tool_fleet.specs.declared.reports.StandingKind.{StandingKind}
use Rattle.tool_fleet.specs.declared.reports.StandingKind.TheVariants as kinds
use Rattle.tool_steps.specs.Sources.{RefusesSource}
use Rattle.tool_steps.specs.Results.{results_refusal}

-- how often the schedule advances the process with this number
abbrev pub advances_of : List ℕ → ℕ → ℕ
advances_of order pid = length (filter (nat_eq pid) order)

-- the files of a process: a text that is accepted as a program, a model, and recorded results
pub record IsProcess (files : Files) (l : Line) : Type 0 where
  pub program : Program
  pub graph : Graph
  pub records : List SysResult
  pub accepted : IsAcceptedAs (file_at files l.file) Instrumented program
  pub is_model : IsModel (file_at files l.model) graph
  pub recorded : AreResultsWithin (file_at files l.results) records

-- what is reported of a process is what it has come to alone: its run is judged by its model, and cut before the first event that is refused (Wagner and Dean 2001; Giffin, Jha and Miller 2004)
pub record IsReportOf (files : Files) (which : Which) (order : List ℕ) (l : Line) (report : ProcessReport) : Type 0 where
  pub process : IsProcess files l
  pub pid : report.pid ≡ l.pid
  pub alone : IsAlone which process.graph l.bound (run process.program process.records l.turns) (advances_of order l.pid) report.standing

-- `open N`, `ended N OUTCOME`, `rejected N EVENT` or `bound N EVENT`
abbrev pub standing_text : Standing → List ℕ
standing_text (standings.Open n) = codes "open " ++ decimal n
standing_text (standings.Ended n outcome) = codes "ended " ++ decimal n ++ codes " " ++ outcome_text outcome
standing_text (standings.Rejected m event) = codes "rejected " ++ decimal m ++ codes " " ++ event_text event
standing_text (standings.Bound m event) = codes "bound " ++ decimal m ++ codes " " ++ event_text event

-- the number of the process, a space, what it has come to, and a line feed
abbrev pub report_line : ProcessReport → List ℕ
report_line report = decimal report.pid ++ codes " " ++ standing_text report.standing ++ codes "\n"

-- a process that has come to this
abbrev pub is_of : StandingKind → Standing → Bool
is_of kinds.Open (standings.Open n) = true
is_of kinds.Ended (standings.Ended n outcome) = true
is_of kinds.Rejected (standings.Rejected m event) = true
is_of kinds.Bound (standings.Bound m event) = true
is_of other standing = false

-- how many of the processes have come to this
abbrev pub how_many : StandingKind → List ProcessReport → ℕ
how_many kind reports = length (filter (λ report. is_of kind report.standing) reports)

-- `fleet processes V open O ended E rejected R bound B`, and a line feed
abbrev pub sum_text : List ProcessReport → List ℕ
sum_text reports =
    codes "fleet processes " ++ decimal (length reports) ++ codes " open " ++ decimal (how_many kinds.Open reports) ++ codes " ended "
    ++ decimal (how_many kinds.Ended reports) ++ codes " rejected " ++ decimal (how_many kinds.Rejected reports) ++ codes " bound "
    ++ decimal (how_many kinds.Bound reports) ++ codes "\n"

-- Rejected where a process is rejected, else Bound where one is at its bound, else Done
abbrev pub status_of_all : List ProcessReport → Status
status_of_all reports =
    if nat_eq (how_many kinds.Rejected reports) 0 then (if nat_eq (how_many kinds.Bound reports) 0 then statuses.Done else statuses.Bound) else statuses.Rejected

-- a line for each process, in the order of the schedule, and then their sum
abbrev pub fleet_text : List ProcessReport → List ℕ
fleet_text reports = flat_map report_line reports ++ sum_text reports

-- the file is a schedule, and the text tells what each of its processes has come to
pub record RunsFleet (files : Files) (schedule : List ℕ) (which : Which) (status : Status) (text : List ℕ) : Type 0 where
  pub plan : Plan
  pub reports : List ProcessReport
  pub is_schedule : IsScheduleWithin (file_at files schedule) plan
  pub reported : AllZip (IsReportOf files which plan.order) plan.processes reports
  pub ends : status ≡ status_of_all reports
  pub writes : text ≡ fleet_text reports

-- the line of a refused schedule
abbrev pub schedule_refusal : ScheduleError → List ℕ
schedule_refusal OutOfMemory = codes "out of memory\n"
schedule_refusal (BadLine k) = codes "record refused S1 line " ++ decimal k ++ codes "\n"
schedule_refusal NoEnd = codes "record refused S2\n"
schedule_refusal TooLong = codes "record refused S3\n"
schedule_refusal Version = codes "record refused S4\n"

-- the schedule is refused, with this status and this line
abbrev pub RefusesSchedule : Option Files → List ℕ → Status → List ℕ → Type 0
RefusesSchedule files schedule status line =
    (error : ScheduleError) × (error ≢ OutOfMemory) × (status ≡ statuses.RecordRefused) × (line ≡ schedule_refusal error)
    × IfSome files (λ told. IsScheduleRefusal error (file_at told schedule))

-- the file of results is refused, with this status and this line
abbrev pub RefusesResults : Option Files → List ℕ → Status → List ℕ → Type 0
RefusesResults files name status line =
    (error : ResultsError) × (error ≢ results.OutOfMemory) × (status ≡ statuses.RecordRefused) × (line ≡ results_refusal error)
    × IfSome files (λ told. IsResultsRefusal error (file_at told name))

abbrev pub IsAProgram : Files → List ℕ → Type 0
IsAProgram files name = (p : Program) × IsAcceptedAs (file_at files name) Instrumented p

-- the first two files of the process are a program and a model
abbrev pub HasModel : Files → Line → Type 0
HasModel files l = IsAProgram files l.file × IsAModel files l.model

-- the files of a process are read and refused in this order: its program, its model, its results
abbrev pub RefusesProcess : Option Files → Line → Status → List ℕ → Type 0
RefusesProcess files l status line =
    RefusesSource Instrumented files l.file status line
    ⊎ ((IfSome files (λ told. IsAProgram told l.file) × RefusesModel files l.model status line)
    ⊎ (IfSome files (λ told. HasModel told l) × RefusesResults files l.results status line))

-- and of those of all processes in the order of the schedule
abbrev pub RefusesProcesses : Option Files → List Line → Status → List ℕ → Type 0
RefusesProcesses files [] status line = ⊥
RefusesProcesses files (l ∷ ls) status line =
    RefusesProcess files l status line ⊎ (IfSome files (λ told. IsProcess told l) × RefusesProcesses files ls status line)

-- the schedule is read and refused first, and then the files of its processes
abbrev pub RefusesFleet : Option Files → List ℕ → Status → List ℕ → Type 0
RefusesFleet files schedule status line =
    RefusesSchedule files schedule status line
    ⊎ ((plan : Plan) × IfSome files (λ told. IsScheduleWithin (file_at told schedule) plan) × RefusesProcesses files plan.processes status line)

-- a file of the process isn't there, and those before it are what they should be
abbrev pub LacksForProcess : Option Files → Line → Type 0
LacksForProcess files l =
    IsMissing files l.file
    ⊎ ((IfSome files (λ told. IsAProgram told l.file) × IsMissing files l.model)
    ⊎ (IfSome files (λ told. HasModel told l) × IsMissing files l.results))

abbrev pub LacksForProcesses : Option Files → List Line → Type 0
LacksForProcesses files [] = ⊥
LacksForProcesses files (l ∷ ls) = LacksForProcess files l ⊎ (IfSome files (λ told. IsProcess told l) × LacksForProcesses files ls)

-- the schedule isn't there, or a file of its processes isn't there and those before it are what they should be
abbrev pub LacksForFleet : Option Files → List ℕ → Type 0
LacksForFleet files schedule =
    IsMissing files schedule
    ⊎ ((plan : Plan) × IfSome files (λ told. IsScheduleWithin (file_at told schedule) plan) × LacksForProcesses files plan.processes)

-- the files are told, and are a schedule and the files of its processes
abbrev pub IsReadyForFleet : Option Files → List ℕ → Type 0
IsReadyForFleet files schedule =
    IsSomeAnd files (λ told. (plan : Plan) × IsScheduleWithin (file_at told schedule) plan × All (IsProcess told) plan.processes)
