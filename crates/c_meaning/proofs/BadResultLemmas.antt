-- A bad result is one of the recorded results: so many were taken, and so many are left.
use Rattle.std.proofs.Common.{◌≡◌, ℕ, zero, suc, ◌+◌, ◌≤◌, true, List, [], ◌∷◌, length, subst, refl, arith}
use Rattle.dm_base.specs.declared.event.Event.{Event}
use Rattle.dm_base.specs.declared.event.Event.TheVariants.{Sys}
use Rattle.dm_base.specs.declared.outcome.Outcome.{Outcome}
use Rattle.dm_base.specs.declared.outcome.Outcome.TheVariants.{BadResult}
use Rattle.sys_table.specs.declared.sys_result.SysResult.{SysResult}
use Rattle.c_tree.specs.declared.value.Value.{Value}
use Rattle.c_tree.specs.declared.value.Value.TheVariants.{Int, Uint}
use Rattle.c_values.specs.Answers.{Answer, gives, undefined}
use Rattle.c_values.specs.Memory.{Objects}
use Rattle.c_meaning.specs.Results.{State, Result, Go, Stop, after, then_do, spend_at, remembered}
use Rattle.c_meaning.specs.Meaning.{Marks, null_call}
use Rattle.c_meaning.specs.Runs.{ending, exit_of, enter, world, beginning, run_with}
use Rattle.c_meaning.specs.SystemCalls.{Request, take_record, does_answer, with_records, filled_where}
use Rattle.c_meaning.specs.BadResults.{BadResultsAreRecorded}
use Rattle.c_meaning.proofs.Lists.{if_has}
use Rattle.c_meaning.proofs.TwoRuns.{Relates, runs_related}

module _ (n : ℕ) where
  -- so many results are taken or left
  abbrev Counts : State → Type 0
  Counts st = st.taken + length st.records ≡ n

  abbrev Names : Outcome → Type 0
  Names (BadResult k) = (1 ≤ k) × (k ≤ n)
  Names a = Unit {0}

  -- after a part it is so, and of an outcome that the result is one of them
  abbrev Keeps : {A : Type 0} → Result A → Type 0
  Keeps (Go a st w) = Counts st
  Keeps (Stop o w) = Names o

  kept_after : {A : Type 0} (w : List Event) (r : Result A) → Keeps r → Keeps (after w r)
  kept_after w (Go a st u) h = h
  kept_after w (Stop o u) h = h

  kept_then : {A B : Type 0} (r : Result A) (f : A → State → Result B) → Keeps r → ((a : A) (st : State) → Counts st → Keeps (f a st)) → Keeps (then_do r f)
  kept_then (Go a st w) f h k = kept_after w (f a st) (k a st h)
  kept_then (Stop o w) f h k = h

  kept_turn : {A : Type 0} (k : ℕ) (st : State) (f : State → Result A) → Counts st → ((st : State) → Counts st → Keeps (f st)) → Keeps (spend_at k st f)
  kept_turn zero st f i h = tt
  kept_turn (suc k) st f i h = h _ i

  null_kept : (event : ℕ → Event) (vs : List Value) (st : State) → Counts st → Keeps (null_call event vs st)
  null_kept event (Uint site ∷ []) st i = i
  null_kept event vs st i = tt

  stored : (w : List Event) (x : Answer Objects) (v : Value) (st : State) → Counts st → Keeps {A = Value} (after w (remembered x v st))
  stored w (gives m) v st i = i
  stored w (undefined kind) v st i = tt

  taking : (x : ℕ) (q : Request) (rs : List SysResult) (st : State) → st.taken + length rs ≡ n → Keeps {A = Value} (take_record x q rs st)
  taking x q [] st i = tt
  taking x q (r ∷ rs) st i =
      if_has {A = Result Value} (λ z. Keeps {A = Value} z) (does_answer x q.asked r) _ _ (λ e. stored (Sys x q.arguments r.value ∷ []) (filled_where q.buffer r.bytes st.memory) _ (with_records st rs) (omega (arith, i))) (λ e. (omega arith, omega (arith, i)))

  kept : (marks : Marks) → Relates marks marks (λ rs. rs) (λ k. k) Counts Counts ⊥ (λ A r q. Keeps {A = A} r)
  kept marks = record {
    joined = λ A B r q f g h k. kept_then {A = A} {B = B} r f h k;
    go = λ A a st i. i;
    undefined = λ A kind. tt;
    marked = λ site r q h. kept_after {A = Value} ((marks site).0) (then_do r (λ v st. Go v st ((marks site).1))) (kept_then {A = Value} {B = Value} r (λ v st. Go v st ((marks site).1)) h (λ v st i. i));
    memory = λ st o i. i;
    entry = λ st vs i. i;
    spend = λ A st f g i h. kept_turn {A = A} st.turns st f i h;
    ends = λ status. tt;
    takes = λ x q st i. taking x q st.records st i;
    null = λ event h vs st i. null_kept event vs st i;
  }

  named : (o : Outcome) (k : ℕ) → o ≡ BadResult k → Names o → (1 ≤ k) × (k ≤ n)
  named o k e h = subst Names e h

  finished : (r : Result Value) → Keeps {A = Value} r → Names ((ending r).outcome)
  finished (Go v st w) h = by_value v
    where
      by_value : (v : Value) → Names (exit_of v)
      by_value (Int z) = tt
      by_value v = tt
  finished (Stop o w) h = h

pub bad_results_are_recorded : BadResultsAreRecorded
bad_results_are_recorded p marks records turns k e =
    let counts = kept (length records) marks in
    named (length records) ((run_with p marks records turns).outcome) k e (finished (length records) (enter p (world p marks turns) marks true p.main [] (beginning p records turns)) (runs_related p counts (λ no. absurd no) (λ st i. i) (λ k. refl) (record { enter = λ wanted f vs. record { at = λ st i. tt }; again = λ fr l h. record { at = λ st i. tt } }) records turns (omega arith)))
