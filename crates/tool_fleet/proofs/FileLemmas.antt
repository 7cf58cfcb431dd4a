-- What `fleet` makes of its files and why it refuses them never hold both, and they are refused with one status.
use Rattle.std.proofs.Common.{◌≡◌, ◌≢◌, ℕ, List, [], ◌∷◌, Ok, Err, Option, Some, None, inl, inr, sym, ◌∙◌, subst, All}
use Rattle.std.specs.List.{AllZip}
use Rattle.std.proofs.lemmas.List.Elements.{All-cons, All-head, All-nil, All-tail}
use Rattle.dm_base.specs.declared.verdict.Status.{Status}
use Rattle.dm_io.specs.Store.{Files, file_at}
use Rattle.fleet_schedule.specs.declared.error.ScheduleError.{ScheduleError}
use Rattle.fleet_schedule.specs.declared.error.ScheduleError.TheVariants.{OutOfMemory}
use Rattle.fleet_schedule.specs.declared.line.Line.{Line}
use Rattle.fleet_schedule.specs.Plan.{Plan}
use Rattle.fleet_schedule.specs.ScheduleText.{IsScheduleWithin, IsScheduleRefusal}
use Rattle.fleet_schedule.proofs.ScheduleLemmas.{found_complete, found_same}
use Rattle.flow_model.specs.declared.which.Which.{Which}
use Rattle.sys_table.proofs.ResultsLemmas.{not_refused}
use Rattle.tool_files.proofs.InputLemmas.{model_or_refused}
use Rattle.tool_fleet.specs.declared.reports.ProcessReport.{ProcessReport}
use Rattle.tool_fleet.specs.Fleet.{IsProcess, IsReadyForFleet, IsReportOf, RefusesFleet, RefusesProcess, RefusesProcesses, RunsFleet}

-- one process

process_apart : (told : Files) (l : Line) (status : Status) (line : List ℕ) → IsProcess told l → RefusesProcess (Some told) l status line → ⊥
process_apart told l status line is (inl refuses) = (refuses.4).1 is.program is.accepted
process_apart told l status line is (inr (inl refuses)) = model_or_refused told l.model (refuses.1).0 (is.graph, is.is_model) (refuses.1).1 (refuses.1).4
process_apart told l status line is (inr (inr refuses)) = (refuses.1).1 (not_refused (refuses.1).0 (file_at told l.results) is.records is.recorded (refuses.1).4)

process_status : (told : Files) (l : Line) (status later : Status) (line other : List ℕ) → RefusesProcess (Some told) l status line → RefusesProcess (Some told) l later other → status ≡ later
process_status told l status later line other (inl a) (inl b) = a.2 ∙ sym b.2
process_status told l status later line other (inl a) (inr (inl b)) = absurd ((a.4).1 (b.0).0 (b.0).1)
process_status told l status later line other (inl a) (inr (inr b)) = absurd ((a.4).1 ((b.0).0).0 ((b.0).0).1)
process_status told l status later line other (inr (inl a)) (inl b) = absurd ((b.4).1 (a.0).0 (a.0).1)
process_status told l status later line other (inr (inl a)) (inr (inl b)) = (a.1).2 ∙ sym (b.1).2
process_status told l status later line other (inr (inl a)) (inr (inr b)) = absurd (model_or_refused told l.model (a.1).0 (b.0).1 (a.1).1 (a.1).4)
process_status told l status later line other (inr (inr a)) (inl b) = absurd ((b.4).1 ((a.0).0).0 ((a.0).0).1)
process_status told l status later line other (inr (inr a)) (inr (inl b)) = absurd (model_or_refused told l.model (b.1).0 (a.0).1 (b.1).1 (b.1).4)
process_status told l status later line other (inr (inr a)) (inr (inr b)) = (a.1).2 ∙ sym (b.1).2

-- all of them

processes_apart : (told : Files) (lines : List Line) (status : Status) (line : List ℕ) → All (IsProcess told) lines → RefusesProcesses (Some told) lines status line → ⊥
processes_apart told [] status line all refuses = refuses
processes_apart told (l ∷ lines) status line all (inl refuses) = process_apart told l status line (All-head (IsProcess told) l lines all) refuses
processes_apart told (l ∷ lines) status line all (inr refuses) = processes_apart told lines status line (All-tail (IsProcess told) l lines all) refuses.1

processes_status : (told : Files) (lines : List Line) (status later : Status) (line other : List ℕ) → RefusesProcesses (Some told) lines status line → RefusesProcesses (Some told) lines later other → status ≡ later
processes_status told [] status later line other a b = absurd a
processes_status told (l ∷ lines) status later line other (inl a) (inl b) = process_status told l status later line other a b
processes_status told (l ∷ lines) status later line other (inl a) (inr b) = absurd (process_apart told l status line b.0 a)
processes_status told (l ∷ lines) status later line other (inr a) (inl b) = absurd (process_apart told l later other a.0 b)
processes_status told (l ∷ lines) status later line other (inr a) (inr b) = processes_status told lines status later line other a.1 b.1

all_processes : (files : Files) (which : Which) (order : List ℕ) (lines : List Line) (reports : List ProcessReport) → AllZip (IsReportOf files which order) lines reports → All (IsProcess files) lines
all_processes files which order [] reports reported = All-nil (IsProcess files)
all_processes files which order (l ∷ lines) [] reported = absurd reported
all_processes files which order (l ∷ lines) (r ∷ reports) reported = All-cons (IsProcess files) l lines (reported.0).process (all_processes files which order lines reports reported.1)

-- the schedule

schedule_or_refused : (told : Files) (name : List ℕ) (error : ScheduleError) (plan : Plan) → IsScheduleWithin (file_at told name) plan → error ≢ OutOfMemory → IsScheduleRefusal error (file_at told name) → ⊥
schedule_or_refused told name error plan is named refusal = named (found_complete (Err error) (file_at told name) plan is refusal)

one_plan : (told : Files) (name : List ℕ) (plan other : Plan) → IsScheduleWithin (file_at told name) plan → IsScheduleWithin (file_at told name) other → other ≡ plan
one_plan told name plan other is again = found_same (Ok other) (file_at told name) plan is again

pub fleet_apart : (told : Files) (schedule : List ℕ) (which : Which) (status later : Status) (text line : List ℕ) → RunsFleet told schedule which status text → RefusesFleet (Some told) schedule later line → ⊥
fleet_apart told schedule which status later text line makes (inl refuses) = schedule_or_refused told schedule refuses.0 makes.plan makes.is_schedule refuses.1 refuses.4
fleet_apart told schedule which status later text line makes (inr refuses) =
    let same : refuses.0 ≡ makes.plan = one_plan told schedule makes.plan refuses.0 makes.is_schedule refuses.1 in
    processes_apart told (refuses.0).processes later line (subst (λ (p : Plan). All (IsProcess told) p.processes) (sym same) (all_processes told which (makes.plan).order (makes.plan).processes makes.reports makes.reported)) refuses.2

pub fleet_status : (told : Files) (schedule : List ℕ) (status later : Status) (line other : List ℕ) → RefusesFleet (Some told) schedule status line → RefusesFleet (Some told) schedule later other → status ≡ later
fleet_status told schedule status later line other (inl a) (inl b) = a.2 ∙ sym b.2
fleet_status told schedule status later line other (inl a) (inr b) = absurd (schedule_or_refused told schedule a.0 b.0 b.1 a.1 a.4)
fleet_status told schedule status later line other (inr a) (inl b) = absurd (schedule_or_refused told schedule b.0 a.0 a.1 b.1 b.4)
fleet_status told schedule status later line other (inr a) (inr b) =
    let same : a.0 ≡ b.0 = one_plan told schedule b.0 a.0 b.1 a.1 in
    processes_status told (b.0).processes status later line other (subst (λ (p : Plan). RefusesProcesses (Some told) p.processes status line) same a.2) b.2

pub fleet_ready : (files : Option Files) (schedule : List ℕ) (status : Status) (line : List ℕ) → IsReadyForFleet files schedule → RefusesFleet files schedule status line → ⊥
fleet_ready None schedule status line ready refuses = ready
fleet_ready (Some told) schedule status line ready (inl refuses) = schedule_or_refused told schedule refuses.0 ready.0 ready.1 refuses.1 refuses.4
fleet_ready (Some told) schedule status line ready (inr refuses) =
    let same : refuses.0 ≡ ready.0 = one_plan told schedule ready.0 refuses.0 ready.1 refuses.1 in
    processes_apart told (refuses.0).processes status line (subst (λ (p : Plan). All (IsProcess told) p.processes) (sym same) ready.2) refuses.2
