-- Whole runs of a machine.
use Rattle.std.specs.Prelude.{◌≡◌, Bool, true, false, List, ◌++◌}
use Rattle.dm_base.specs.declared.event.Event.{Event}
use Rattle.c_meaning.specs.Runs.{Run}
use Rattle.ref_machine.specs.declared.next.Next.{Next}
use Rattle.ref_machine.specs.declared.next.Next.TheVariants as nexts
use Rattle.ref_machine.specs.declared.whole.Run.{Run as Found}
use Rattle.ref_machine.specs.declared.pause.Pause.{Pause}
use Rattle.ref_machine.specs.declared.pause.Pause.TheVariants.{NeedResult, Did, Ended}
use Rattle.ref_machine.specs.Futures.{event_first, only_end}

-- how the run ended, and its events
abbrev pub run_of : Found → Run
run_of r = record { outcome = r.outcome; trace = r.trace.items }

-- what is left of a run before and after a pause
abbrev pub Follows : Run → Pause → Run → Type 0
Follows old NeedResult new = old ≡ new
Follows old (Did e) new = old ≡ event_first e new
Follows old (Ended o) new = old ≡ only_end o

-- a record is needed only where the machine was not waiting for one, and it waits from then on alone
abbrev pub Waits : Bool → Pause → Bool → Type 0
Waits waited NeedResult waiting = (waited ≡ false) × (waiting ≡ true)
Waits waited (Did e) waiting = waiting ≡ false
Waits waited (Ended o) waiting = waiting ≡ false

-- what is left of a run before and after its next event or its end
abbrev pub Happens : Run → Next → Run → Type 0
Happens old (nexts.Event e) new = old ≡ event_first e new
Happens old (nexts.End o) new = old ≡ only_end o

-- these events, and then the run
abbrev pub joined : List Event → Run → Run
joined trace r = record { outcome = r.outcome; trace = trace ++ r.trace }
