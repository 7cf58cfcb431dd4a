-- The future of a machine: from the recorded results to come, how the run ends, and the events to come.
use Rattle.std.specs.Prelude.{◌≡◌, ◌≢◌, ℕ, ◌+◌, Bool, true, false, List, [], ◌∷◌, Option, Some, None}
use Rattle.dm_base.specs.declared.event.Event.{Event}
use Rattle.dm_base.specs.declared.outcome.Outcome.{Outcome}
use Rattle.dm_base.specs.declared.outcome.Outcome.TheVariants.{Results}
use Rattle.sys_table.specs.declared.sys_result.SysResult.{SysResult}
use Rattle.c_tree.specs.View.{program_of}
use Rattle.c_values.specs.Seen.{seen}
use Rattle.c_meaning.specs.Runs.{Run, ending}
use Rattle.c_meaning.specs.TypedResults.{IsEnding}
use Rattle.ref_machine_frames.specs.declared.frames.Now.{Now}
use Rattle.ref_machine.specs.declared.machine.Machine.{Machine}
use Rattle.ref_machine.specs.declared.pause.Pause.{Pause}
use Rattle.ref_machine.specs.declared.pause.Pause.TheVariants.{NeedResult, Did, Ended}
use Rattle.ref_machine.specs.Stages.{waits, has_failed_at}
use Rattle.ref_machine.specs.Standing.{Standing, left_of}

abbrev pub Future : Type 0
Future = List SysResult → Run

abbrev pub standing : Machine → Standing
standing m =
    record { here = m.here; memory = seen m.memory; entries = m.entries; turns = m.turns; now = m.next; todo = m.todo.items }

-- what the machine is going to do, with these records to come
abbrev pub future : Machine → Future
future m records = ending (left_of (program_of m.program.now) m.allowed (standing m) records m.taken)

-- the same where this comes next
abbrev pub future_at : Machine → Now → Future
future_at m now records =
    ending (left_of (program_of m.program.now) m.allowed (record { here = m.here; memory = seen m.memory; entries = m.entries; turns = m.turns; now = now; todo = m.todo.items }) records m.taken)

-- with any records to come it ends by an outcome that a run of a well-typed program may have
abbrev pub EndsRight : Future → Type 0
EndsRight future = (records : List SysResult) → IsEnding (future records).outcome

-- how many recorded results were taken
abbrev pub records_taken : Machine → ℕ
records_taken m = m.taken

-- the same after one more, where one is given
abbrev pub taken_with : Option SysResult → ℕ → ℕ
taken_with None n = n
taken_with (Some given) n = n + 1

-- the machine has said that it needs a recorded result, and was not given one since
abbrev pub is_waiting : Machine → Bool
is_waiting m = waits m.stage

-- memory was refused
abbrev pub has_failed : Machine → Bool
has_failed m = has_failed_at m.stage

-- the event comes before what the run does after it
abbrev pub event_first : Event → Run → Run
event_first e r = record { outcome = r.outcome; trace = e ∷ r.trace }

-- nothing but this end is left of a run
abbrev pub only_end : Outcome → Run
only_end o = record { outcome = o; trace = [] }

-- what a machine that was not waiting tells of its future before and after
abbrev pub GoesOn : Future → Pause → Future → Bool → Type 0
GoesOn old NeedResult new waiting =
    ((records : List SysResult) → new records ≡ old records) × (old [] ≡ only_end Results) × (waiting ≡ true) × ((one : SysResult) (records : List SysResult) → old (one ∷ records) ≢ only_end Results)
GoesOn old (Did e) new waiting = ((records : List SysResult) → old records ≡ event_first e (new records)) × (waiting ≡ false)
GoesOn old (Ended o) new waiting =
    ((records : List SysResult) → (old records ≡ only_end o) × (new records ≡ only_end o)) × (waiting ≡ false)

-- the records to come, of which this one is the first, where one is given
abbrev pub with_given : Option SysResult → List SysResult → List SysResult
with_given None records = []
with_given (Some given) records = given ∷ records

-- what a machine that was waiting tells of its future before and after, once it was given a record or none
abbrev pub Resumes : Future → Option SysResult → Pause → Future → Bool → Type 0
Resumes old given NeedResult new waiting = ⊥
Resumes old given (Did e) new waiting =
    ((records : List SysResult) → old (with_given given records) ≡ event_first e (new records)) × (waiting ≡ false)
Resumes old given (Ended o) new waiting =
    ((records : List SysResult) → (old (with_given given records) ≡ only_end o) × (new records ≡ only_end o)) × (waiting ≡ false)

-- what one call of advance tells
abbrev pub Advances : Bool → Future → Option SysResult → Pause → Future → Bool → Type 0
Advances false old given pause new waiting = GoesOn old pause new waiting
Advances true old given pause new waiting = Resumes old given pause new waiting

-- the same as one fact, of a machine that was waiting
pub record HasResumed (old : Future) (given : Option SysResult) (pause : Pause) (new : Future) (waiting : Bool) : Type 0 where
  pub so : Resumes old given pause new waiting
