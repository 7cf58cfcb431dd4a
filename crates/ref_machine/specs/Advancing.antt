-- What calls of advance tell of a run, from its start on.
use Rattle.std.specs.Prelude.{◌≡◌, ◌≢◌, ◌↔◌, ℕ, Bool, true, false, List, [], ◌∷◌, ◌++◌, Option, Some, None, IsSome}
use Rattle.dm_base.specs.declared.event.Event.{Event}
use Rattle.dm_base.specs.declared.outcome.Outcome.{Outcome}
use Rattle.dm_base.specs.declared.outcome.Outcome.TheVariants.{Results}
use Rattle.sys_table.specs.declared.sys_result.SysResult.{SysResult}
use Rattle.c_tree.specs.Tree.{Program}
use Rattle.c_meaning.specs.Runs.{run}
use Rattle.ref_machine.specs.declared.pause.Pause.{Pause}
use Rattle.ref_machine.specs.declared.pause.Pause.TheVariants.{NeedResult, Did, Ended}
use Rattle.ref_machine.specs.Futures.{Future, Advances, with_given}

-- what the calls so far have come to: the records that were given and the events that were made, in order, whether the last one needs a
-- record, the outcome where the last one told the end, and the future of the machine
pub record Told : Type 0 where
  pub given : List SysResult
  pub events : List Event
  pub waiting : Bool
  pub ended : Option Outcome
  pub future : Future

abbrev pub event_of : Pause → List Event
event_of NeedResult = []
event_of (Did e) = e ∷ []
event_of (Ended o) = []

abbrev pub end_of : Pause → Option Outcome
end_of NeedResult = None
end_of (Did e) = None
end_of (Ended o) = Some o

-- before the first call
abbrev pub nothing_told : Future → Told
nothing_told future = record { given = []; events = []; waiting = false; ended = None; future = future }

-- after one more call
abbrev pub told_with : Told → Option SysResult → Pause → Future → Bool → Told
told_with t given pause future waiting =
    record { given = t.given ++ with_given given []; events = t.events ++ event_of pause; waiting = waiting; ended = end_of pause; future = future }

-- what calls of advance on one machine, none of which found no memory, can tell of this program with so many turns
pub data Tells (p : Program) (n : ℕ) : Told → Type 0 where
  started : (future : Future) → ((records : List SysResult) → future records ≡ run p records n) → Tells p n (nothing_told future)
  advanced : (t : Told) (given : Option SysResult) (pause : Pause) (future : Future) (waiting : Bool) → Tells p n t → (IsSome given → t.waiting ≡ true) → Advances t.waiting t.future given pause future waiting → Tells p n (told_with t given pause future waiting)

-- the run with these records ends for want of one more after these events, and with one more it does not end there so
pub record NeedsRecord (p : Program) (n : ℕ) (given : List SysResult) (events : List Event) : Type 0 where
  pub wants : run p given n ≡ record { outcome = Results; trace = events }
  pub goes_on : (one : SysResult) (records : List SysResult) → run p (given ++ one ∷ records) n ≢ record { outcome = Results; trace = events }

-- whatever calls of advance have told is what the run is
pub record AdvancesAreExact : Type 0 where
  -- the events so far begin the trace of the run with the records so far and any further ones
  pub events : (p : Program) (n : ℕ) (t : Told) → Tells p n t → (records : List SysResult) → (later : List Event) × ((run p (t.given ++ records) n).trace ≡ t.events ++ later)
  -- the end is that of the run with the records so far, and the events are its trace
  pub ended : (p : Program) (n : ℕ) (t : Told) (o : Outcome) → Tells p n t → t.ended ≡ Some o → run p t.given n ≡ record { outcome = o; trace = t.events }
  -- where it is not for want of a record, any further ones change nothing
  pub further : (p : Program) (n : ℕ) (t : Told) (o : Outcome) → Tells p n t → t.ended ≡ Some o → o ≢ Results → (records : List SysResult) → run p (t.given ++ records) n ≡ record { outcome = o; trace = t.events }
  -- before the end, a machine that is not waiting says that it needs a record exactly where the run does
  pub needs : (p : Program) (n : ℕ) (t : Told) (pause : Pause) (future : Future) (waiting : Bool) → Tells p n t → t.ended ≡ None → t.waiting ≡ false → Advances false t.future None pause future waiting → (pause ≡ NeedResult) ↔ NeedsRecord p n t.given t.events
  -- the end is told again and again
  pub again : (p : Program) (n : ℕ) (t : Told) (o : Outcome) (pause : Pause) (future : Future) (waiting : Bool) → Tells p n t → t.ended ≡ Some o → Advances t.waiting t.future None pause future waiting → pause ≡ Ended o
