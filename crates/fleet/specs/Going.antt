-- For private contracts and proofs alone: how a process of a fleet goes on, and what it has come to.
use Rattle.std.specs.Prelude.{◌≡◌, ◌⊎◌, ℕ, ◌+◌, ◌≤◌, ◌<◌, ◌^◌, true, false, List, [], ◌∷◌, ◌++◌, Option, None, Some, length, map, drop, Result, IfOk, OnErr, IsErr}
use Rattle.dm_base.specs.declared.event.Event.{Event}
use Rattle.dm_base.specs.declared.memory.OutOfMemory.{OutOfMemory}
use Rattle.dm_base.specs.declared.outcome.Outcome.{Outcome}
use Rattle.dm_base.specs.declared.verdict.Step.{Step}
use Rattle.dm_base.specs.declared.verdict.Step.TheVariants as steps
use Rattle.dm_base.specs.declared.verdict.Verdict.{Verdict}
use Rattle.dm_base.specs.declared.verdict.Verdict.TheVariants as verdicts
use Rattle.sys_table.specs.declared.sys_result.SysResult.{SysResult}
use Rattle.c_tree.specs.Tree.{Program}
use Rattle.c_meaning.specs.Runs.{Run, run}
use Rattle.c_meaning.specs.Laws.{IsTypedRun}
use Rattle.flow_model.specs.declared.monitor.Monitor as monitor
use Rattle.flow_model.specs.declared.which.Which.{Which}
use Rattle.flow_model.specs.Graph.{Graph}
use Rattle.flow_model.specs.Verdict.{IsAccepted, IsRejectedAt, IsBoundAt, IsVerdict}
use Rattle.ref_machine.specs.Futures.{future, only_end, records_taken}
use Rattle.ref_machine.specs.WholeRuns.{joined}
use Rattle.trace_file.specs.declared.record.Record.{Record}
use Rattle.trace_file.specs.declared.version.TracesVersion.{TracesVersion}
use Rattle.trace_file.specs.declared.version.TracesVersion.TheVariants.{One}
use Rattle.trace_file.specs.Known.{known_count}
use Rattle.trace_file.specs.Traces.{most_processes}
use Rattle.watch.specs.declared.watch.Watch.{Watch}
use Rattle.watch.specs.Own.{has_record, own, record_of}
use Rattle.watch.specs.Pasts.{refused_event}
use Rattle.watch.specs.Watching.{StandsFor as WatchStandsFor}
use Rattle.fleet.specs.declared.advance.Advance.{Advance}
use Rattle.fleet.specs.declared.advance.Advance.TheVariants.{Made, Rejected, Bound, Ended}
use Rattle.fleet.specs.declared.process.Process.{Process}
use Rattle.fleet.specs.declared.process.Stage.{Stage}
use Rattle.fleet.specs.declared.process.Stage.TheVariants as stages
use Rattle.fleet.specs.Alone.{IsAnswer}
use Rattle.fleet.specs.Members.{Group, Member, one_more, run_of}

-- what is left of the process's run
abbrev pub remaining : Process → Run
remaining p = future p.machine (drop p.taken p.results.now)

-- the answer where a new event is judged so
abbrev pub answer_of : Event → Step → Advance
answer_of e steps.Kept = Made e
answer_of e steps.Rejected = Rejected e
answer_of e steps.Bound = Bound e

-- and the stage of the process
abbrev pub stage_of : Step → Stage
stage_of steps.Kept = stages.Open
stage_of steps.Rejected = stages.Rejected
stage_of steps.Bound = stages.Bound

-- the number that a verdict tells: that of all events, or that of the event that was refused
abbrev pub number_of : Verdict → ℕ
number_of (verdicts.Accepted n) = n
number_of (verdicts.Rejected k) = k
number_of (verdicts.Bound k) = k

-- the events are accepted, or the last of them is the first that is refused
abbrev pub IsUpToRefusal : Which → Graph → ℕ → List Event → Type 0
IsUpToRefusal which g bound t = IsAccepted which g bound t ⊎ (IsRejectedAt which g bound t (length t) ⊎ IsBoundAt which g bound t (length t))

-- the records that an advance adds, by the stage before it
abbrev pub added_at : ℕ → Stage → Advance → List Record
added_at pid stages.Open (Made e) = record_of pid e ∷ []
added_at pid stages.Open (Rejected e) = record_of pid e ∷ []
added_at pid stages.Open (Bound e) = record_of pid e ∷ []
added_at pid stages.Open (Ended o) = []
added_at pid stages.Rejected answer = []
added_at pid stages.Bound answer = []
added_at pid (stages.Ended o) answer = []
added_at pid stages.Failed answer = []

module _ (which : Which) (g : Group) where
  -- so many advances have made these events, and all were accepted; the rest of the run is still to come
  pub record IsOpen (p : Process) (m : Member) (made : List Event) : Type 0 where
    pub run : run_of m ≡ joined made (remaining p)
    pub taken : records_taken p.machine ≡ p.taken
    pub accepted : IsAccepted which g.model g.bound made
    pub count : length made ≡ m.advances

  -- the run has ended, and all its events were accepted
  pub record HasEnded (outcome : Outcome) (m : Member) (made : List Event) : Type 0 where
    pub run : run_of m ≡ joined made (only_end outcome)
    pub accepted : IsAccepted which g.model g.bound made
    pub over : length made < m.advances

  -- the last of these events was refused
  pub record WasRefused (Refused : List Event → ℕ → Type 0) (m : Member) (made : List Event) : Type 0 where
    pub left : Run
    pub run : run_of m ≡ joined made left
    pub some : 1 ≤ length made
    pub refused : Refused made (length made)
    pub within : length made ≤ m.advances

  -- by the stage: the process has made these events, the last of which may be one that was refused
  abbrev pub HasCome : Stage → Process → Member → List Event → Type 0
  HasCome stages.Open p m made = (m.failed ≡ false) × IsOpen p m made
  HasCome stages.Rejected p m made = (m.failed ≡ false) × WasRefused (IsRejectedAt which g.model g.bound) m made
  HasCome stages.Bound p m made = (m.failed ≡ false) × WasRefused (IsBoundAt which g.model g.bound) m made
  HasCome (stages.Ended o) p m made = (m.failed ≡ false) × HasEnded o m made
  HasCome stages.Failed p m made = m.failed ≡ true

  -- at this stage the process is the member, where its group has these records
  pub record IsAtStage (stage : Stage) (records : List Record) (p : Process) (m : Member) : Type 0 where
    pub pid : p.pid ≡ m.pid
    pub group : p.group ≡ m.group
    pub results : p.results.now ≡ m.results
    pub typed : IsTypedRun (run_of m)
    pub come : HasCome stage p m (own One m.pid records)

  abbrev pub IsAt : List Record → Process → Member → Type 0
  IsAt records p m = IsAtStage p.stage records p m

-- at this stage the process may be advanced, where this is the watch of its group
pub record IsReady {M P : Type 0} (laws : monitor.Ghosts M P) (g : Group) (records : List Record) (w : Watch M P) (stage : Stage) (p : Process) (m : Member) : Type 0 where
  pub watch : WatchStandsFor laws g.model g.bound One w records
  pub at : IsAtStage laws.WHICH g stage records p m
  pub room : (e : Event) → known_count One (records ++ record_of p.pid e ∷ []) ≤ most_processes
  pub few : length records + 1 < 2 ^ 64

-- the watch has a record of the process, and the verdict on the process's own history refuses it at this event
pub record HasRefused {M P : Type 0} (laws : monitor.Ghosts M P) (w : Watch M P) (pid : ℕ) : Type 0 where
  pub group : Group
  pub records : List Record
  pub watch : WatchStandsFor laws group.model group.bound One w records
  pub there : has_record records pid ≡ true
  pub verdict : Verdict
  pub judged : IsVerdict laws.WHICH group.model group.bound (own One pid records) verdict
  pub event : Event
  pub refused : refused_event verdict (own One pid records) ≡ Some event

-- the process has its number, its group and its results
pub record IsSameProcess (old new : Process) : Type 0 where
  pub pid : new.pid ≡ old.pid
  pub group : new.group ≡ old.group
  pub results : new.results.now ≡ old.results.now

-- the numbers of the processes
abbrev pub numbers : List Process → List ℕ
numbers processes = map (λ p. p.pid) processes

-- what one advance tells of a process and of the watch of its group, before and after it
pub record HasAdvanced {M P : Type 0} (laws : monitor.Ghosts M P) (p q : Process) (w v : Watch M P) (answer : Result Advance OutOfMemory) : Type 0 where
  pub records : IfOk answer (λ a. (g : Graph) (k : ℕ) (version : TracesVersion) (records : List Record) → WatchStandsFor laws g k version w records → WatchStandsFor laws g k version v (records ++ added_at p.pid p.stage a))
  pub same : OnErr answer ((g : Graph) (k : ℕ) (version : TracesVersion) (records : List Record) → WatchStandsFor laws g k version w records → WatchStandsFor laws g k version v records)
  pub at : IfOk answer (λ a. (g : Group) (records : List Record) (m : Member) → IsReady laws g records w p.stage p m → IsAt laws.WHICH g (records ++ added_at p.pid p.stage a) q (one_more m))
  pub exact : IfOk answer (λ a. (g : Group) (records : List Record) (m : Member) → IsReady laws g records w p.stage p m → IsAnswer laws.WHICH g.model g.bound (run_of m) (m.advances + 1) a)
  pub kept : IsSameProcess p q
  pub failed : OnErr answer (q.stage ≡ stages.Failed)
  pub fails : p.stage ≡ stages.Failed → IsErr answer

-- the process begins the run of this program
pub record IsStarted (pid group : ℕ) (program : Program) (results : List SysResult) (turns : ℕ) (p : Process) : Type 0 where
  pub number : p.pid ≡ pid
  pub in_group : p.group ≡ group
  pub given : p.results.now ≡ results
  pub machine : (records : List SysResult) → future p.machine records ≡ run program records turns
  pub none : p.taken ≡ 0
  pub unused : records_taken p.machine ≡ 0
  pub stage : p.stage ≡ stages.Open
