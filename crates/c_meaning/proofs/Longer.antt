-- A part of a run, and the same part with more recorded results and more turns.
use Rattle.std.proofs.Common.{◌≡◌, ◌⊎◌, inl, inr, ℕ, zero, suc, ◌+◌, Bool, true, false, if◌then◌else◌, List, [], ◌∷◌, ◌++◌, sym, ap, ◌∙◌, subst, refl, arith}
use Rattle.dm_base.specs.declared.event.Event.{Event}
use Rattle.dm_base.specs.declared.event.Event.TheVariants.{Sys}
use Rattle.dm_base.specs.declared.outcome.Outcome.{Outcome}
use Rattle.dm_base.specs.declared.outcome.Outcome.TheVariants.{Results, Turns}
use Rattle.sys_table.specs.declared.sys_result.SysResult.{SysResult}
use Rattle.c_tree.specs.declared.value.Value.{Value}
use Rattle.c_tree.specs.declared.value.Value.TheVariants.{Uint}
use Rattle.c_values.specs.Answers.{Answer, gives, undefined}
use Rattle.c_values.specs.Memory.{Objects}
use Rattle.c_meaning.specs.Meaning.{Marks, with_marks, null_call}
use Rattle.c_meaning.specs.Results.{State, Result, Go, Stop, after, then_do, spend_at, remembered}
use Rattle.c_meaning.specs.SystemCalls.{Request, take_record, does_answer, with_records, filled_where, result_value}
use Rattle.sys_table.specs.Table.{result_of as result_kind}
use Rattle.c_meaning.proofs.TwoRuns.{second}

-- a sum that computes
abbrev pub plus : ℕ → ℕ → ℕ
plus zero n = n
plus (suc k) n = suc (plus k n)

pub plus_is : (k n : ℕ) → plus k n ≡ k + n
plus_is zero n = omega arith
plus_is (suc k) n = let h = plus_is k n in omega (arith, h)

pub plus_zero : (k : ℕ) → plus k 0 ≡ k
plus_zero zero = refl
plus_zero (suc k) = ap suc (plus_zero k)

-- the state with more
abbrev pub more_in : List SysResult → ℕ → State → State
more_in records turns st = second (λ rs. rs ++ records) (λ k. plus k turns) st

-- the run may end thus where there was not enough of what there is more of
pub record IsLack (records : List SysResult) (turns : ℕ) (Lack : Outcome → Type 0) : Type 0 where
  pub of_records : Lack Results ⊎ (records ≡ [])
  pub of_turns : Lack Turns ⊎ (turns ≡ 0)

module _ (records : List SysResult) (turns : ℕ) (Lack : Outcome → Type 0) (lack : IsLack records turns Lack) where
  abbrev pub longer : {A : Type 0} → Result A → Result A
  longer (Go a st w) = Go a (more_in records turns st) w
  longer (Stop o w) = Stop o w

  abbrev pub Lacks : {A : Type 0} → Result A → Type 0
  Lacks (Go a st w) = ⊥
  Lacks (Stop o w) = Lack o

  -- the second part is the first one with more, or the first one ended for want of it
  abbrev pub Follows : {A : Type 0} → Result A → Result A → Type 0
  Follows r q = Lacks r ⊎ (q ≡ longer r)

  after_follows : {A : Type 0} (w : List Event) (r q : Result A) → Follows r q → Follows (after w r) (after w q)
  after_follows {A = A} w r q (inl h) = inl (at r h)
    where
      at : (r : Result A) → Lacks r → Lacks (after w r)
      at (Stop o u) h = h
      at (Go a st u) h = absurd h
  after_follows {A = A} w r q (inr e) = inr (ap (λ q. after w q) e ∙ at r)
    where
      at : (r : Result A) → after w (longer r) ≡ longer (after w r)
      at (Go a st u) = refl
      at (Stop o u) = refl

  pub then_follows : {A B : Type 0} (r q : Result A) (f g : A → State → Result B) → Follows r q → ((a : A) (st : State) → Follows (f a st) (g a (more_in records turns st))) → Follows (then_do r f) (then_do q g)
  then_follows {A = A} {B = B} r q f g (inl h) k = inl (at r h)
    where
      at : (r : Result A) → Lacks r → Lacks (then_do r f)
      at (Stop o u) h = h
      at (Go a st u) h = absurd h
  then_follows {A = A} {B = B} r q f g (inr e) k = subst (λ q. Follows (then_do r f) (then_do q g)) (sym e) (at r)
    where
      at : (r : Result A) → Follows {A = B} (then_do r f) (then_do (longer r) g)
      at (Go a st w) = after_follows w (f a st) (g a (more_in records turns st)) (k a st)
      at (Stop o w) = inr refl

  remembered_follows : {A : Type 0} (x : Answer Objects) (a : A) (st : State) → Follows (remembered x a st) (remembered x a (more_in records turns st))
  remembered_follows (gives m) a st = inr refl
  remembered_follows (undefined kind) a st = inr refl

  pub instrumented_follows : (marks : Marks) (site : ℕ) (r q : Result Value) → Follows r q → Follows (with_marks marks site r) (with_marks marks site q)
  instrumented_follows marks site r q h =
      after_follows {A = Value} ((marks site).0) (then_do r (λ v st. Go v st ((marks site).1))) (then_do q (λ v st. Go v st ((marks site).1)))
      (then_follows {A = Value} {B = Value} r q (λ v st. Go v st ((marks site).1)) (λ v st. Go v st ((marks site).1)) h (λ v st. inr refl))

  if_follows : {A : Type 0} (holds : Bool) (a b c d : Result A) → Follows a c → Follows b d → Follows (if holds then a else b) (if holds then c else d)
  if_follows true a b c d h k = h
  if_follows false a b c d h k = k

  pub spend_follows : {A : Type 0} (n : ℕ) (st : State) (f g : State → Result A) → ((st : State) → Follows (f st) (g (more_in records turns st))) → Follows (spend_at n st f) (spend_at (plus n turns) (more_in records turns st) g)
  spend_follows {A = A} zero st f g h = at lack.of_turns
    where
      at : Lack Turns ⊎ (turns ≡ 0) → Follows {A = A} (Stop Turns []) (spend_at turns (more_in records turns st) g)
      at (inl l) = inl l
      at (inr e) = inr (ap (λ k. spend_at k (more_in records turns st) g) e)
  spend_follows (suc n) st f g h = h (record { memory = st.memory; entries = st.entries; records = st.records; taken = st.taken; turns = n })

  pub null_follows : (event : ℕ → Event) (vs : List Value) (st : State) → Follows (null_call event vs st) (null_call event vs (more_in records turns st))
  null_follows event (Uint site ∷ []) st = inr refl
  null_follows event vs st = inr refl

  pub take_follows : (x : ℕ) (q : Request) (rs : List SysResult) (st : State) → Follows (take_record x q rs st) (take_record x q (rs ++ records) (more_in records turns st))
  take_follows x q [] st = at lack.of_records
    where
      at : Lack Results ⊎ (records ≡ []) → Follows {A = Value} (Stop Results []) (take_record x q records (more_in records turns st))
      at (inl l) = inl l
      at (inr e) = inr (ap (λ rs. take_record x q rs (more_in records turns st)) e)
  take_follows x q (r ∷ rs) st =
      if_follows {A = Value} (does_answer x q.asked r) _ _ _ _
      (after_follows {A = Value} (Sys x q.arguments r.value ∷ []) (remembered stored gave (with_records st rs)) (remembered stored gave (more_in records turns (with_records st rs))) (remembered_follows {A = Value} stored gave (with_records st rs)))
      (inr refl)
    where
      stored : Answer Objects
      stored = filled_where q.buffer r.bytes st.memory

      gave : Value
      gave = result_value (result_kind x) r.value
