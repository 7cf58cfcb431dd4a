-- A machine that was waiting goes on.
use Rattle.std.proofs.Common.{◌≡◌, ℕ, List, [], ◌∷◌, Bool, true, false, Option, Some, None, sym, ap, ◌∙◌, refl, subst, arith}
use Rattle.dm_base.specs.declared.event.Event.{Event}
use Rattle.dm_base.specs.declared.outcome.Outcome.{Outcome}
use Rattle.dm_base.specs.declared.outcome.Outcome.TheVariants.{Results, Turns, Undefined}
use Rattle.std.specs.Prelude.{IsSome}
use Rattle.std.specs.Borrow.{Bor}
use Rattle.std.specs.Option.{option_copied}
use Rattle.sys_table.specs.declared.sys_result.SysResult.{SysResult}
use Rattle.ref_machine_frames.specs.Request.{Request}
use Rattle.c_tree.specs.View.{program_of}
use Rattle.c_values.specs.Memory.{Objects}
use Rattle.c_values.specs.Seen.{seen}
use Rattle.c_meaning.specs.Runs.{Run, ending}
use Rattle.c_meaning.specs.TypedResults.{IsEnding}
use Rattle.ref_machine_frames.specs.Requests.{asked_by}
use Rattle.ref_machine_frames.specs.Held.{world}
use Rattle.ref_machine_frames.specs.Frames.{place_of, stack, after_value}
use Rattle.ref_machine_frames.specs.declared.frames.Here.{Here}
use Rattle.ref_machine_frames.specs.declared.frames.Frame.{Frame}
use Rattle.ref_machine_frames.specs.declared.frames.Now.{Now}
use Rattle.ref_machine_frames.specs.declared.frames.Now.TheVariants.{Eval, Have, Exec, Left, Enter, Test, Ask, Told, Stopped, Mistyped}
use Rattle.ref_machine.specs.declared.machine.Machine.{Machine}
use Rattle.ref_machine.specs.declared.pause.Pause.{Pause}
use Rattle.ref_machine.specs.declared.pause.Pause.TheVariants.{NeedResult, Did, Ended}
use Rattle.ref_machine.specs.declared.machine.Stage.{Stage}
use Rattle.ref_machine.specs.declared.machine.Stage.TheVariants.{Going, Waiting, Failed}
use Rattle.ref_machine.specs.Stages.{HasCall, waits}
use Rattle.ref_machine.specs.Standing.{GoesRight, IsAsk, left_of, state}
use Rattle.ref_machine.proofs.Recording.{none_wanted}
use Rattle.ref_machine.specs.Futures.{EndsRight, Future, event_first, future, future_at, only_end, with_given, taken_with, Advances, GoesOn, HasResumed, Resumes}

-- no record is left
pub resumed_without : (m : Machine) (name : _) (request : Request) (given : Option SysResult) → m.next ≡ Ask name request → given ≡ None → (records : List SysResult) → future m (with_given given records) ≡ only_end Results
resumed_without m name request given is none records =
    ap (λ now. future_at m now (with_given given records)) is ∙ ap (λ g. future_at m (Ask name request) (with_given g records)) none

resumed_at : (old f new : Future) (given g : Option SysResult) (pause : Pause) (waiting : Bool) → ((records : List SysResult) → old records ≡ f records) → given ≡ g → Resumes f g pause new waiting → Resumes old given pause new waiting
resumed_at old f new given g NeedResult waiting same is h = h
resumed_at old f new given g (Did e) waiting same is h =
    (λ records. same (with_given given records) ∙ (ap (λ o. f (with_given o records)) is ∙ h.0 records), h.1)
resumed_at old f new given g (Ended o) waiting same is h =
    (λ records. (same (with_given given records) ∙ (ap (λ o. f (with_given o records)) is ∙ (h.0 records).0), (h.0 records).1), h.1)

-- a record is given
pub resumed_with : {f new : Future} {g : Option SysResult} {pause : Pause} {waiting : Bool} (m : Machine) (name : ℕ) (request : Request) (given : Option SysResult) → HasResumed f g pause new waiting → m.next ≡ Ask name request → f ≡ future_at m (Ask name request) → given ≡ g → Resumes (future m) given pause new waiting
resumed_with {f = f} {new = new} {g = g} {pause = pause} {waiting = waiting} m name request given h is same one =
    resumed_at (future m) f new given g pause waiting (λ records. ap (λ now. future_at m now records) is ∙ ap (λ (f : Future). f records) (sym same)) one h.so

-- the same future before
pub goes_alike : (old f new : Future) (pause : Pause) (waiting : Bool) → ((records : List SysResult) → old records ≡ f records) → GoesOn f pause new waiting → GoesOn old pause new waiting
goes_alike old f new NeedResult waiting same h = (λ records. h.0 records ∙ sym (same records), same [] ∙ h.1, h.2, λ one records is. h.3 one records (sym (same (one ∷ records)) ∙ is))
goes_alike old f new (Did e) waiting same h = (λ records. same records ∙ h.0 records, h.1)
goes_alike old f new (Ended o) waiting same h = (λ records. (same records ∙ (h.0 records).0, (h.0 records).1), h.1)

-- a record is needed
pub needs_one : (m : Machine) (name : ℕ) (request : Request) (now : Now) (new : Future) → now ≡ Ask name request → ((records : List SysResult) → new records ≡ future_at m (Ask name request) records) → GoesOn (future_at m now) NeedResult new true
needs_one m name request now new is same =
    let p = program_of m.program.now in
    (λ records. same records ∙ ap (λ now. future_at m now records) (sym is), ap (λ now. future_at m now []) is, refl, λ one records ends. none_wanted name (asked_by request) one records (state (seen m.memory) m.entries (one ∷ records) m.taken m.turns) (after_value p (world p m.allowed) (place_of m.here) (stack m.todo.items)) (ap (λ now. future_at m now (one ∷ records)) (sym is) ∙ ends))

-- the run has ended
pub has_ended : (old new : Future) (o : Outcome) (pause : Pause) → pause ≡ Ended o → ((records : List SysResult) → old records ≡ only_end o) → ((records : List SysResult) → new records ≡ only_end o) → GoesOn old pause new false
has_ended old new o pause is before later =
    subst (λ pause. GoesOn old pause new false) (sym is) (λ records. (before records, later records), refl)

-- a machine that was not waiting goes on
pub goes_when : (waited : Bool) (old new : Future) (given : Option SysResult) (pause : Pause) (waiting : Bool) → waited ≡ false → GoesOn old pause new waiting → Advances waited old given pause new waiting
goes_when true old new given pause waiting is h = cc
goes_when false old new given pause waiting is h = h

-- one that was waiting resumes
pub resumes_when : (waited : Bool) (old new : Future) (given : Option SysResult) (pause : Pause) (waiting : Bool) → waited ≡ true → Resumes old given pause new waiting → Advances waited old given pause new waiting
resumes_when true old new given pause waiting is h = h
resumes_when false old new given pause waiting is h = cc

-- a machine that was not waiting is given no record
pub none_taken : (given : Option (Bor SysResult)) (waited : Bool) (old new : ℕ) → waited ≡ false → (IsSome given → waited ≡ true) → new ≡ old → new ≡ taken_with (option_copied given) old
none_taken None waited old new is need same = same
none_taken (Some g) waited old new is need same = let gave : waited ≡ true = need refl in cc

-- what is left after an event ends as the whole does
pub right_after : (e : Event) (old new : Future) → ((records : List SysResult) → old records ≡ event_first e (new records)) → EndsRight old → EndsRight new
right_after e old new same right records = subst (λ (r : Run). IsEnding r.outcome) (same records) (right records)

-- the same future ends alike
pub right_alike : (old new : Future) → ((records : List SysResult) → old records ≡ new records) → EndsRight old → EndsRight new
right_alike old new same right records = subst (λ (r : Run). IsEnding r.outcome) (same records) (right records)

-- a run of a well-typed program meets no value of another kind than its place
pub never_mistyped : (m : Machine) (now : Now) → now ≡ Mistyped → EndsRight (future_at m now) → ⊥
never_mistyped m now is right =
    let end : IsEnding (Undefined 13) = subst (λ now. IsEnding (future_at m now []).outcome) is (right []) in
    omega (arith, end.1)

not_ask : (next now : Now) → IsAsk next → now ≡ next → ((name : ℕ) (request : Request) → now ≡ Ask name request → ⊥) → ⊥
not_ask (Ask name request) now h is never = never name request is
not_ask next now h is never = h

-- a machine that waits has a system call before it
pub call_waits : (stage : Stage) (next now : Now) → waits stage ≡ true → HasCall stage next → now ≡ next → ((name : ℕ) (request : Request) → now ≡ Ask name request → ⊥) → ⊥
call_waits Going next now w h is never = cc
call_waits Waiting next now w h is never = not_ask next now h is never
call_waits (Failed error) next now w h is never = cc

-- a run that has ended ends rightly
pub ended_right : (m : Machine) (here : Here) (memory : Objects) (entries turns : ℕ) (now : Now) (todo : List Frame) → now ≡ Stopped Turns → GoesRight (program_of m.program.now) m.allowed (record { here = here; memory = memory; entries = entries; turns = turns; now = now; todo = todo }) m.taken
ended_right m here memory entries turns now todo is records =
    subst (λ (now : Now). IsEnding (ending (left_of (program_of m.program.now) m.allowed (record { here = here; memory = memory; entries = entries; turns = turns; now = now; todo = todo }) records m.taken)).outcome) (sym is) tt
