-- Pauses of a whole run.
use Rattle.std.proofs.Common.{◌≡◌, ℕ, suc, ◌+◌, ◌<◌, Bool, true, false, length, drop, drop-cons, get_or, arith, List, [], ◌∷◌, ◌++◌, Option, Some, None, refl, sym, ap, subst, ◌∙◌, append_assoc, append-nil}
use Rattle.dm_base.specs.declared.event.Event.{Event}
use Rattle.dm_base.specs.declared.outcome.Outcome.{Outcome}
use Rattle.c_meaning.specs.Runs.{Run}
use Rattle.ref_machine.specs.declared.pause.Pause.{Pause}
use Rattle.ref_machine.specs.declared.pause.Pause.TheVariants.{NeedResult, Did, Ended}
use Rattle.sys_table.specs.declared.sys_result.SysResult.{SysResult}
use Rattle.ref_machine.specs.Futures.{Future, Advances, event_first, only_end}
use Rattle.ref_machine.specs.declared.next.Next.{Next}
use Rattle.ref_machine.specs.WholeRuns.{Follows, Happens, Waits, joined}

-- an event was made, and noted
pub event_on : (whole : Run) (trace new_trace : List Event) (e : Event) (old new : Run) → whole ≡ joined trace old → old ≡ event_first e new → new_trace ≡ trace ++ (e ∷ []) → whole ≡ joined new_trace new
event_on whole trace new_trace e old new so h grown =
    so ∙ (ap (joined trace) h ∙ (ap (λ t. record { outcome = new.outcome; trace = t }) (sym (append_assoc trace (e ∷ []) new.trace)) ∙ ap (λ t. joined t new) (sym grown)))

-- fewer events are to come
pub fewer_to_come : (e : Event) (old new : Run) → old ≡ event_first e new → length new.trace < length old.trace
fewer_to_come e old new h =
    let one : length old.trace ≡ suc (length new.trace) = ap (λ (r : Run). length r.trace) h in
    omega (arith, one)

-- the run has ended
pub end_told : (whole : Run) (trace : List Event) (old : Run) (o : Outcome) → whole ≡ joined trace old → old ≡ only_end o → record { outcome = o; trace = trace } ≡ whole
end_told whole trace old o so h =
    ap (λ t. record { outcome = o; trace = t }) (sym (append-nil trace)) ∙ (sym (ap (joined trace) h) ∙ sym so)

-- a pause that tells the next event or the end
pub event_next : (pause : Pause) (e : Event) (old new : Run) → Follows old pause new → pause ≡ Did e → old ≡ event_first e new
event_next NeedResult e old new h is = cc
event_next (Did f) e old new h is =
    let same : f ≡ e = cc in
    h ∙ ap (λ e. event_first e new) same
event_next (Ended o) e old new h is = cc

pub end_next : (pause : Pause) (o : Outcome) (old new : Run) → Follows old pause new → pause ≡ Ended o → old ≡ only_end o
end_next NeedResult o old new h is = cc
end_next (Did e) o old new h is = cc
end_next (Ended q) o old new h is =
    let same : q ≡ o = cc in
    h ∙ ap only_end same

-- one that needs a record, after which the machine waits
pub need_next : (waited waiting : Bool) (pause : Pause) → Waits waited pause waiting → pause ≡ NeedResult → (waited ≡ false) × (waiting ≡ true)
need_next waited waiting NeedResult h is = h
need_next waited waiting (Did e) h is = cc
need_next waited waiting (Ended o) h is = cc

pub same_left : (pause : Pause) (old new : Run) → Follows old pause new → pause ≡ NeedResult → old ≡ new
same_left NeedResult old new h is = h
same_left (Did e) old new h is = cc
same_left (Ended o) old new h is = cc

pub happens_after : (old mid new : Run) (next : Next) → old ≡ mid → Happens mid next new → Happens old next new
happens_after old mid new next is h = subst (λ r. Happens r next new) (sym is) h

-- what a call of advance tells of waiting
pub waits_when : (waited : Bool) (old new : Future) (given : Option SysResult) (pause : Pause) (waiting : Bool) → Advances waited old given pause new waiting → Waits waited pause waiting
waits_when false old new given NeedResult waiting h = (refl, h.2)
waits_when false old new given (Did e) waiting h = h.1
waits_when false old new given (Ended o) waiting h = h.1
waits_when true old new given NeedResult waiting h = absurd h
waits_when true old new given (Did e) waiting h = h.1
waits_when true old new given (Ended o) waiting h = h.1

-- a machine that was not waiting
pub follows_going : (waited : Bool) (old new : Future) (pause : Pause) (waiting : Bool) → waited ≡ false → Advances waited old None pause new waiting → (rs : List SysResult) → Follows (old rs) pause (new rs)
follows_going true old new pause waiting is h rs = cc
follows_going false old new NeedResult waiting is h rs = sym (h.0 rs)
follows_going false old new (Did e) waiting is h rs = h.0 rs
follows_going false old new (Ended o) waiting is h rs = (h.0 rs).0

-- a machine that was waiting and was given a record
pub follows_given : (waited : Bool) (old new : Future) (g : SysResult) (pause : Pause) (waiting : Bool) → waited ≡ true → Advances waited old (Some g) pause new waiting → (rs : List SysResult) → Follows (old (g ∷ rs)) pause (new rs)
follows_given false old new g pause waiting is h rs = cc
follows_given true old new g NeedResult waiting is h rs = absurd h
follows_given true old new g (Did e) waiting is h rs = h.0 rs
follows_given true old new g (Ended o) waiting is h rs = (h.0 rs).0

-- a machine that was waiting, where no record is left
pub follows_none : (waited : Bool) (old new : Future) (pause : Pause) (waiting : Bool) → waited ≡ true → Advances waited old None pause new waiting → (rs : List SysResult) → rs ≡ [] → Follows (old rs) pause (new rs)
follows_none false old new pause waiting is h rs none = cc
follows_none true old new NeedResult waiting is h rs none = absurd h
follows_none true old new (Did e) waiting is h rs none = ap old none ∙ h.0 rs
follows_none true old new (Ended o) waiting is h rs none = ap old none ∙ (h.0 rs).0

-- the first record that is left
pub record_left : (rs : List SysResult) (i : ℕ) (g : SysResult) → i < length rs → g ≡ get_or rs i g → drop i rs ≡ g ∷ drop (i + 1) rs
record_left rs i g lt is =
    let next : suc i ≡ i + 1 = omega arith in
    drop-cons rs i g lt ∙ (ap (λ x. x ∷ drop (suc i) rs) (sym is) ∙ ap (λ k. g ∷ drop k rs) next)
