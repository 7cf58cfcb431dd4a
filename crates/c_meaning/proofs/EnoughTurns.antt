-- As many turns as are left are enough: with them, the world of a run is its own next one. By recursion on turns.
use Rattle.std.proofs.Common.{◌≡◌, ℕ, zero, suc, ◌≤◌, List, [], ◌∷◌, ap, subst, refl, arith}
use Rattle.dm_base.specs.declared.event.Event.{Event}
use Rattle.dm_base.specs.declared.event.Event.TheVariants.{Sys}
use Rattle.dm_base.specs.declared.outcome.Outcome.TheVariants.{Turns}
use Rattle.sys_table.specs.Table.{result_of as result_kind}
use Rattle.sys_table.specs.declared.sys_result.SysResult.{SysResult}
use Rattle.c_tree.specs.declared.value.Value.{Value}
use Rattle.c_tree.specs.declared.value.Value.TheVariants.{Uint}
use Rattle.c_tree.specs.Tree.{Program}
use Rattle.c_values.specs.Answers.{Answer, gives, undefined}
use Rattle.c_values.specs.Memory.{Objects}
use Rattle.c_meaning.specs.Meaning.{Marks, null_call}
use Rattle.c_meaning.specs.Results.{State, Result, Go, Stop, after, then_do, spend_at, remembered}
use Rattle.c_meaning.specs.Runs.{world}
use Rattle.c_meaning.specs.SystemCalls.{Request, take_record, does_answer, with_records, filled_where, result_value}
use Rattle.c_meaning.specs.Turns.{TurnsAreEnough}
use Rattle.c_meaning.proofs.Lists.{if_has}
use Rattle.c_meaning.proofs.TwoRuns.{Relates, Both, AreRelated, loop_related, enter_related}

-- a part leaves at most t turns
abbrev pub Under : {A : Type 0} → ℕ → Result A → Type 0
Under t (Go a st w) = st.turns ≤ t
Under t (Stop o w) = Unit {0}

-- two parts are the same and leave at most t turns
abbrev pub Same : {A : Type 0} → ℕ → Result A → Result A → Type 0
Same t r q = (r ≡ q) × Under t r

under_after : {A : Type 0} (t : ℕ) (w : List Event) (r : Result A) → Under t r → Under t (after w r)
under_after t w (Go a st u) h = h
under_after t w (Stop o u) h = h

under_more : {A : Type 0} (t u : ℕ) (r : Result A) → t ≤ u → Under t r → Under u r
under_more t u (Go a st w) le h = omega arith
under_more t u (Stop o w) le h = tt

module _ (left : ℕ) where
  after_agree : {A : Type 0} (w : List Event) (r q : Result A) → Same left r q → Same left (after w r) (after w q)
  after_agree w r q h = (ap (λ r. after w r) h.0, under_after left w r h.1)

  then_agree : {A B : Type 0} (r q : Result A) (f g : A → State → Result B) → Same left r q → ((a : A) (st : State) → st.turns ≤ left → Same left (f a st) (g a st)) → Same left (then_do r f) (then_do q g)
  then_agree {A = A} {B = B} r q f g h k = subst (λ q. Same left (then_do r f) (then_do q g)) h.0 (at r h.1)
    where
      at : (r : Result A) → Under left r → Same {A = B} left (then_do r f) (then_do r g)
      at (Stop o w) u = (refl, tt)
      at (Go a st w) u = after_agree {A = B} w (f a st) (g a st) (k a st u)

  spend_agree : {A : Type 0} (n : ℕ) (st : State) (f g : State → Result A) → n ≤ suc left → ((st : State) → st.turns ≤ left → Same left (f st) (g st)) → Same left (spend_at n st f) (spend_at n st g)
  spend_agree zero st f g i h = (refl, tt)
  spend_agree (suc n) st f g i h =
      h (record { memory = st.memory; entries = st.entries; records = st.records; taken = st.taken; turns = n }) (omega (arith, i))

  null_agree : (event : ℕ → Event) (vs : List Value) (st : State) → st.turns ≤ left → Same left (null_call event vs st) (null_call event vs st)
  null_agree event (Uint site ∷ []) st i = (refl, i)
  null_agree event vs st i = (refl, tt)

  stored : (w : List Event) (x : Answer Objects) (v : Value) (st : State) → st.turns ≤ left → Under {A = Value} left (after w (remembered x v st))
  stored w (gives m) v st i = i
  stored w (undefined kind) v st i = tt

  taken : (x : ℕ) (q : Request) (rs : List SysResult) (st : State) → st.turns ≤ left → Under {A = Value} left (take_record x q rs st)
  taken x q [] st i = tt
  taken x q (r ∷ rs) st i =
      if_has {A = Result Value} (λ z. Under {A = Value} left z) (does_answer x q.asked r) _ _ (λ e. stored (Sys x q.arguments r.value ∷ []) (filled_where q.buffer r.bytes st.memory) (result_value (result_kind x) r.value) (with_records st rs) i) (λ e. tt)

  pub agree : (marks : Marks) → Relates marks marks (λ rs. rs) (λ k. k) (λ st. st.turns ≤ left) (λ st. st.turns ≤ suc left) ⊥ (λ A r q. Same {A = A} left r q)
  agree marks = record {
    joined = λ A B r q f g h k. then_agree {A = A} {B = B} r q f g h k;
    go = λ A a st i. (refl, i);
    undefined = λ A kind. (refl, tt);
    marked = λ site r q h. after_agree {A = Value} ((marks site).0) (then_do r (λ v st. Go v st ((marks site).1))) (then_do q (λ v st. Go v st ((marks site).1))) (then_agree {A = Value} {B = Value} r q (λ v st. Go v st ((marks site).1)) (λ v st. Go v st ((marks site).1)) h (λ v st i. (refl, i)));
    memory = λ st o i. i;
    entry = λ st vs i. i;
    spend = λ A st f g i h. spend_agree {A = A} st.turns st f g i h;
    ends = λ status. (refl, tt);
    takes = λ x q st i. (refl, taken x q st.records st i);
    null = λ event h vs st i. null_agree event vs st i;
  }

-- where no turn is left, it is the same to stop
pub none_left : (marks : Marks) {A : Type 0} (f : State → Result A) → Both (agree 0 marks) A (λ st. Stop Turns []) (λ st. spend_at st.turns st f)
none_left marks {A} f = record { at = λ st le. none st.turns st le }
  where
    none : (k : ℕ) (st : State) → k ≤ 0 → Same {A = A} 0 (Stop Turns []) (spend_at k st f)
    none zero st le = (refl, tt)
    none (suc k) st le = absurd (omega arith)

-- and one turn more
pub one_more : (marks : Marks) (n : ℕ) {A : Type 0} {f g : State → Result A} → ((st : State) → st.turns ≤ suc n → Same n (f st) (g st)) → Both (agree (suc n) marks) A f g
one_more marks n {A} {f} {g} h =
    record { at = λ st le. let same = h st le in (same.0, under_more {A = A} n (suc n) (f st) (omega arith) same.1) }

module _ (p : Program) (marks : Marks) where
  -- the world of n turns and the next one are alike
  world_alike : (n : ℕ) → AreRelated p (agree n marks) (world p marks n) (world p marks (suc n))
  world_alike zero = record { enter = λ wanted f vs. none_left marks _; again = λ fr l no. none_left marks _ }
  world_alike (suc n) = record {
    enter = λ wanted f vs. one_more marks n (enter_related p (agree n marks) (world p marks n) (world p marks (suc n)) (world_alike n) (λ no. absurd no) wanted f vs);
    again = λ fr l no. one_more marks n (loop_related p (agree n marks) (world p marks n) (world p marks (suc n)) (world_alike n) fr l no);
  }

-- where at most n turns are left, the world of n turns enters a function by its body, and tests a loop as the loop
pub turns_are_enough : TurnsAreEnough
turns_are_enough = record {
  enter = λ p marks n wanted f vs st le. (((world_alike p marks n).enter wanted f vs).at st le).0;
  again = λ p marks n fr l st le. (((world_alike p marks n).again fr l (λ no. absurd no)).at st le).0;
}
