-- What a recorded result comes to.
use Rattle.std.proofs.Common.{◌≡◌, ℕ, zero, suc, Bool, true, false, if◌then◌else◌, List, [], ◌∷◌, FitsSigned, w32, ap, sym, ◌∙◌, subst, refl, arith, inl, inr}
use Rattle.std.specs.Prelude.{Ok}
use Rattle.std.proofs.lemmas.Int.{ints}
use Rattle.dm_base.specs.declared.event.Event.TheVariants.{Sys}
use Rattle.sys_table.specs.declared.sys_result.SysResult.{SysResult}
use Rattle.sys_table.specs.Table.{table, result_of, FitsResult}
use Rattle.sys_table.specs.Answering.{Answers}
use Rattle.c_tree.specs.declared.value.Value.{Value}
use Rattle.c_values.specs.Answers.{gives}
use Rattle.c_values.specs.Memory.{Objects}
use Rattle.c_meaning.specs.Results.{State, Stop, after, remembered}
use Rattle.c_meaning.specs.SystemCalls.{Request as Asked, does_answer, result_value, filled_where, with_records, take_record}
use Rattle.dm_base.specs.declared.outcome.Outcome.TheVariants.{BadResult as bad_result}
use Rattle.c_meaning.proofs.Answering.{records_are_judged}
use Rattle.ref_machine_steps.specs.declared.records.Called.TheVariants.{Answered, BadResult}
use Rattle.ref_machine_steps.specs.Taking.{comes_to, Takes}

-- a result that answers is in the range of the call's result
pub fits_if_answers : (x asked : ℕ) (r : SysResult) → Answers x asked r → FitsResult (result_of x) r.value
unfolding table
fits_if_answers zero asked r (inl h) = subst (λ z. FitsSigned w32 z) (sym h.0) (grind (arith, ints))
fits_if_answers zero asked r (inr h) = h.2
fits_if_answers (suc zero) asked r h = h.fits
fits_if_answers (suc (suc x)) asked r h = h.1

does : (x asked : ℕ) (r : SysResult) → Answers x asked r → does_answer x asked r ≡ true
does x asked r h = (records_are_judged x asked r).1 h

does_not : (x asked : ℕ) (r : SysResult) → (Answers x asked r → ⊥) → does_answer x asked r ≡ false
does_not x asked r h = at (does_answer x asked r) refl
  where
    at : (b : Bool) → does_answer x asked r ≡ b → does_answer x asked r ≡ false
    at true e = absurd (h ((records_are_judged x asked r).0 e))
    at false e = e

-- the call, by whether the result answers and by what the memory is that its data are stored to
by_answer : (x : ℕ) (q : Asked) (r : SysResult) (rest : List SysResult) (st : State) (b : Bool) (old : Objects) → does_answer x q.asked r ≡ b → st.memory ≡ old →
    take_record x q (r ∷ rest) st
    ≡ (if b then after (Sys x q.arguments r.value ∷ []) (remembered (filled_where q.buffer r.bytes old) (result_value (result_of x) r.value) (with_records st rest)) else Stop (bad_result (suc st.taken)) [])
by_answer x q r rest st b old e is =
    ap (λ b. if b then after (Sys x q.arguments r.value ∷ []) (remembered (filled_where q.buffer r.bytes st.memory) (result_value (result_of x) r.value) (with_records st rest)) else Stop (bad_result (suc st.taken)) []) e
    ∙ ap (λ m. if b then after (Sys x q.arguments r.value ∷ []) (remembered (filled_where q.buffer r.bytes m) (result_value (result_of x) r.value) (with_records st rest)) else Stop (bad_result (suc st.taken)) []) is

pub taken : (x : ℕ) (q : Asked) (r : SysResult) (old new : Objects) (v : Value) → Answers x q.asked r → gives new ≡ filled_where q.buffer r.bytes old → v ≡ result_value (result_of x) r.value → Takes old new x q r (Answered (Sys x q.arguments r.value) (Ok v))
taken x q r old new v h fills value st rest is =
    by_answer x q r rest st true old (does x q.asked r h) is
    ∙ (ap (λ a. after (Sys x q.arguments r.value ∷ []) (remembered a (result_value (result_of x) r.value) (with_records st rest))) (sym fills)
    ∙ ap (λ v. comes_to (Answered (Sys x q.arguments r.value) (Ok v)) new rest st) (sym value))

pub not_taken : (x : ℕ) (q : Asked) (r : SysResult) (old new : Objects) → (Answers x q.asked r → ⊥) → Takes old new x q r BadResult
not_taken x q r old new h st rest is = by_answer x q r rest st false old (does_not x q.asked r h) is
