-- The events of a program that makes no null call: by recursion on its parts, and on turns.
use Rattle.std.proofs.Common.{◌≡◌, ℕ, zero, suc, true, List, [], ◌∷◌, ◌++◌, ap, ◌∙◌, refl}
use Rattle.dm_base.specs.declared.event.Event.{Event}
use Rattle.sys_table.specs.declared.sys_result.SysResult.{SysResult}
use Rattle.c_tree.specs.declared.value.Value.{Value}
use Rattle.c_tree.specs.Tree.{Program}
use Rattle.c_values.specs.Answers.{Answer, gives, undefined}
use Rattle.c_values.specs.Memory.{Objects}
use Rattle.c_meaning.specs.Results.{State, Result, Go, Stop, after, then_do, spend_at, remembered}
use Rattle.c_meaning.specs.Runs.{enter, world, beginning}
use Rattle.dm_base.specs.declared.event.Event.TheVariants.{Sys}
use Rattle.dm_base.specs.Trace.{erase}
use Rattle.c_meaning.specs.Runs.{run, no_marks, ending}
use Rattle.c_meaning.specs.SystemCalls.{Request, take_record, does_answer, with_records, filled_where}
use Rattle.c_meaning.specs.WithoutNullCalls.{MakesNoNullCall}
use Rattle.flow_model.proofs.Histories.{erase-append}
use Rattle.c_meaning.proofs.Lists.{if_has}
use Rattle.c_meaning.proofs.TwoRuns.{Relates, runs_related}

-- a part makes no null call
abbrev pub Plain : {A : Type 0} → Result A → Type 0
Plain (Go a st w) = erase w ≡ w
Plain (Stop o w) = erase w ≡ w

append_plain : (w u : List Event) → erase w ≡ w → erase u ≡ u → erase (w ++ u) ≡ w ++ u
append_plain w u h k = erase-append w u ∙ (ap (λ z. z ++ erase u) h ∙ ap (λ z. w ++ z) k)

after_plain : {A : Type 0} (w : List Event) (r : Result A) → erase w ≡ w → Plain r → Plain (after w r)
after_plain w (Go a st u) h k = append_plain w u h k
after_plain w (Stop o u) h k = append_plain w u h k

then_plain : {A B : Type 0} (r : Result A) (f : A → State → Result B) → Plain r → ((a : A) (st : State) → Plain (f a st)) → Plain (then_do r f)
then_plain (Go a st w) f h k = after_plain w (f a st) h (k a st)
then_plain (Stop o w) f h k = h

remembered_plain : {A : Type 0} (x : Answer Objects) (a : A) (st : State) → Plain (remembered x a st)
remembered_plain (gives m) a st = refl
remembered_plain (undefined kind) a st = refl

turn_plain : {A : Type 0} (n : ℕ) (st : State) (f : State → Result A) → ((st : State) → Plain (f st)) → Plain (spend_at n st f)
turn_plain zero st f h = refl
turn_plain (suc n) st f h = h _

take_plain : (x : ℕ) (q : Request) (rs : List SysResult) (st : State) → Plain (take_record x q rs st)
take_plain x q [] st = refl
take_plain x q (r ∷ rs) st =
    if_has {A = Result Value} (λ z. Plain {A = Value} z) (does_answer x q.asked r) _ _ (λ e. after_plain {A = Value} (Sys x q.arguments r.value ∷ []) _ refl (remembered_plain {A = Value} (filled_where q.buffer r.bytes st.memory) _ (with_records st rs))) (λ e. refl)

plain : Relates no_marks no_marks (λ rs. rs) (λ k. k) (λ st. Unit {0}) (λ st. Unit {0}) (Unit {0}) (λ A r q. Plain {A = A} r)
plain = record {
  joined = λ A B r q f g h k. then_plain {A = A} {B = B} r f h (λ a st. k a st tt);
  go = λ A a st i. refl;
  undefined = λ A kind. refl;
  marked = λ site r q h. after_plain {A = Value} [] (then_do r (λ v st. Go v st [])) refl (then_plain {A = Value} {B = Value} r (λ v st. Go v st []) h (λ v st. refl));
  memory = λ st o i. tt;
  entry = λ st vs i. tt;
  spend = λ A st f g i h. turn_plain {A = A} st.turns st f (λ st. h st tt);
  ends = λ status. refl;
  takes = λ x q st i. take_plain x q st.records st;
  null = λ event h vs st i. absurd (h tt);
}

module _ (p : Program) (free : MakesNoNullCall p) where
  -- the events of a run are without null calls
  pub run_plain : (records : List SysResult) (turns : ℕ) → erase ((run p records turns).trace) ≡ (run p records turns).trace
  run_plain records turns =
      at (enter p (world p no_marks turns) no_marks true p.main [] (beginning p records turns)) (runs_related p plain (λ t. free) (λ st i. tt) (λ k. refl) (record { enter = λ wanted f vs. record { at = λ st i. refl }; again = λ fr l h. record { at = λ st i. refl } }) records turns tt)
    where
      at : (r : Result Value) → Plain r → erase ((ending r).trace) ≡ (ending r).trace
      at (Go v st w) h = h
      at (Stop o w) h = h
