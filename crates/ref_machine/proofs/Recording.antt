-- A recorded result is taken.
use Rattle.std.proofs.Common.{◌≡◌, ℕ, suc, ◌+◌, Bool, true, false, if◌then◌else◌, List, [], ◌∷◌, ◌++◌, sym, ap, ◌∙◌, refl, arith}
use Rattle.std.specs.Prelude.{◌≢◌, Ok, Err}
use Rattle.std.specs.Prelude.{Result as Answered}
use Rattle.dm_base.specs.declared.event.Event.{Event}
use Rattle.dm_base.specs.declared.event.Event.TheVariants.{Sys}
use Rattle.dm_base.specs.declared.outcome.Outcome.TheVariants.{Results, BadResult as bad_result}
use Rattle.sys_table.specs.declared.sys_result.SysResult.{SysResult}
use Rattle.sys_table.specs.Table.{result_of as result_kind}
use Rattle.c_tree.specs.declared.value.Value.{Value}
use Rattle.c_tree.specs.Tree.{Program}
use Rattle.c_values.specs.Memory.{Objects}
use Rattle.c_meaning.specs.Meaning.{Frame as Place, World}
use Rattle.c_meaning.specs.Results.{State, Result, Go, Stop, after, then_do, answered, remembered}
use Rattle.c_meaning.specs.Runs.{Run, ending}
use Rattle.c_meaning.specs.SystemCalls.{Request as Asked, take_record, does_answer, filled_where, result_value, with_records}
use Rattle.ref_machine_frames.specs.Fault.{Fault}
use Rattle.ref_machine_frames.specs.Called.TheVariants as calls
use Rattle.ref_machine_frames.specs.Faults.{told}
use Rattle.ref_machine_frames.specs.Taking.{goes_on, Takes}
use Rattle.ref_machine_frames.specs.declared.frames.Frame.{Frame}
use Rattle.ref_machine_frames.specs.declared.frames.Now.{Now}
use Rattle.ref_machine_frames.specs.Frames.{after_value, rest}
use Rattle.ref_machine_frames.specs.Parts.{IsAnswer}
use Rattle.ref_machine_frames.proofs.Joining.{after_none}
use Rattle.ref_machine.specs.Futures.{event_first, only_end}
use Rattle.ref_machine.specs.Standing.{state}
use Rattle.ref_machine.proofs.Turning.{ended_after}

settles : (event : Event) (value : Answered Value Fault) (st : State) (k : Value → State → Result Value) (x : Result Value) → x ≡ then_do (answered (told value) st) k → ending (then_do (goes_on event value st) k) ≡ event_first event (ending x)
settles event (Ok v) st k x h =
    ended_after event (k v st) ∙ ap (λ r. event_first event (ending r)) (sym (after_none (k v st)) ∙ sym h)
settles event (Err fault) st k x h = ap (λ r. event_first event (ending r)) (sym h)

-- it answers the call
pub taken_answered : (p : Program) (w : World) (fr : Place) (old new : Objects) (e taken number turns : ℕ) (todo : List Frame) (x : ℕ) (q : Asked) (given : SysResult) (event : Event) (value : Answered Value Fault) (now : Now) → Takes old new x q given (calls.Answered event value) → number ≡ taken + 1 → IsAnswer (told value) now → (records : List SysResult) →
    ending (then_do (take_record x q (given ∷ records) (state old e (given ∷ records) taken turns)) (after_value p w fr todo)) ≡ event_first event (ending (rest p w fr now todo (state new e records number turns)))
taken_answered p w fr old new e taken number turns todo x q given event value now takes is comes records =
    let next : suc taken ≡ number = omega (arith, is) in
    ap (λ r. ending (then_do r (after_value p w fr todo))) (takes (state old e (given ∷ records) taken turns) records refl)
    ∙ (ap (λ t. ending (then_do (goes_on event value (state new e records t turns)) (after_value p w fr todo))) next
    ∙ settles event value (state new e records number turns) (after_value p w fr todo) (rest p w fr now todo (state new e records number turns)) (comes p w fr todo (state new e records number turns)))

-- it does not
pub taken_badly : (old new : Objects) (e taken number turns : ℕ) (x : ℕ) (q : Asked) (given : SysResult) (k : Value → State → Result Value) → Takes old new x q given calls.BadResult → number ≡ taken + 1 → (records : List SysResult) →
    ending (then_do (take_record x q (given ∷ records) (state old e (given ∷ records) taken turns)) k) ≡ only_end (bad_result number)
taken_badly old new e taken number turns x q given k takes is records =
    let next : suc taken ≡ number = omega (arith, is) in
    ap (λ r. ending (then_do r k)) (takes (state old e (given ∷ records) taken turns) records refl) ∙ ap (λ t. only_end (bad_result t)) next

-- an event comes before the end
event_before : (e : Event) (u : List Event) (r : Result Value) → ending (after (e ∷ u) r) ≢ only_end Results
event_before e u (Go v st t) is = let none : e ∷ (u ++ t) ≡ [] = ap (λ (r : Run). r.trace) is in cc
event_before e u (Stop o t) is = let none : e ∷ (u ++ t) ≡ [] = ap (λ (r : Run). r.trace) is in cc

judged : (b : Bool) (e : Event) (r : Result Value) (n : ℕ) (k : Value → State → Result Value) → ending (then_do (if b then after (e ∷ []) r else Stop (bad_result n) []) k) ≢ only_end Results
judged true e (Go v st u) n k is = event_before e u (k v st) is
judged true e (Stop o u) n k is = let none : e ∷ u ≡ [] = ap (λ (r : Run). r.trace) is in cc
judged false e r n k is = let same : bad_result n ≡ Results = ap (λ (r : Run). r.outcome) is in cc

-- with one record more the run does not end for want of one
pub none_wanted : (x : ℕ) (q : Asked) (given : SysResult) (records : List SysResult) (st : State) (k : Value → State → Result Value) → ending (then_do (take_record x q (given ∷ records) st) k) ≢ only_end Results
none_wanted x q given records st k =
    judged (does_answer x q.asked given) (Sys x q.arguments given.value) (remembered (filled_where q.buffer given.bytes st.memory) (result_value (result_kind x) given.value) (with_records st records)) (suc st.taken) k
