-- What a program does with more recorded results and more turns: by recursion on its parts, and on turns.
use Rattle.std.proofs.Common.{◌≡◌, ◌⊎◌, inl, inr, ℕ, ◌+◌, true, List, [], ◌++◌, ap, ◌∙◌, refl, subst, append-nil}
use Rattle.dm_base.specs.declared.outcome.Outcome.{Outcome}
use Rattle.dm_base.specs.declared.outcome.Outcome.TheVariants.{Results, Turns}
use Rattle.sys_table.specs.declared.sys_result.SysResult.{SysResult}
use Rattle.c_tree.specs.declared.value.Value.{Value}
use Rattle.c_tree.specs.Tree.{Program}
use Rattle.c_meaning.specs.Meaning.{Marks}
use Rattle.c_meaning.specs.Results.{State, Result, Go, Stop, Exit}
use Rattle.c_meaning.specs.Runs.{run_with, ending, enter, world, beginning}
use Rattle.c_meaning.specs.More.{MoreRecordsChangeNothing, MoreTurnsChangeNothing}
use Rattle.c_meaning.proofs.Longer.{plus, plus_is, plus_zero, more_in, IsLack, longer, Lacks, Follows, then_follows, instrumented_follows, spend_follows, null_follows, take_follows}
use Rattle.c_meaning.proofs.TwoRuns.{Relates, AreRelated, runs_related}

module _ (p : Program) (marks : Marks) (records : List SysResult) (turns : ℕ) (Lack : Outcome → Type 0) (lack : IsLack records turns Lack) where
  -- the second part is the first one with more, or the first one ended for want of it
  abbrev Goes : {A : Type 0} → Result A → Result A → Type 0
  Goes r q = Follows records turns Lack lack r q

  abbrev further : State → State
  further st = more_in records turns st

  goes : Relates marks marks (λ rs. rs ++ records) (λ k. plus k turns) (λ st. Unit {0}) (λ st. Unit {0}) ⊥ (λ A r q. Goes {A = A} r q)
  goes = record {
    joined = λ A B r q f g h k. then_follows records turns Lack lack {A = A} {B = B} r q f g h (λ a st. k a st tt);
    go = λ A a st i. inr refl;
    undefined = λ A kind. inr refl;
    marked = λ site r q h. instrumented_follows records turns Lack lack marks site r q h;
    memory = λ st o i. tt;
    entry = λ st vs i. tt;
    spend = λ A st f g i h. spend_follows records turns Lack lack {A = A} st.turns st f g (λ st. h st tt);
    ends = λ status. inr refl;
    takes = λ x q st i. take_follows records turns Lack lack x q st.records st;
    null = λ event h vs st i. null_follows records turns Lack lack event vs st;
  }

  -- where no turn is left
  none_left : {A : Type 0} (q : Result A) → (turns ≡ 0 → q ≡ Stop Turns []) → Goes {A = A} (Stop Turns []) q
  none_left {A = A} q h = at lack.of_turns
    where
      at : Lack Turns ⊎ (turns ≡ 0) → Goes {A = A} (Stop Turns []) q
      at (inl l) = inl l
      at (inr e) = inr (h e)

  none : AreRelated p goes (world p marks 0) (world p marks turns)
  none = record {
    enter = λ wanted f vs. record { at = λ st i. none_left {A = Value} _ (λ e. ap (λ k. (world p marks k).enter wanted f vs (further st)) e) };
    again = λ fr l h. record { at = λ st i. none_left {A = Exit} _ (λ e. ap (λ k. (world p marks k).again fr l (further st)) e) };
  }

  -- a run that did not end for want of what there is more of
  run_goes : (rs : List SysResult) (k : ℕ) → (Lack ((run_with p marks rs k).outcome) → ⊥) → run_with p marks (rs ++ records) (plus k turns) ≡ run_with p marks rs k
  run_goes rs k not = at (enter p (world p marks k) marks true p.main [] (beginning p rs k)) _ (runs_related p goes (λ no. absurd no) (λ st i. tt) (λ k. refl) none rs k tt) not
    where
      same : (r : Result Value) → ending (longer records turns Lack lack r) ≡ ending r
      same (Go v st w) = refl
      same (Stop o w) = refl

      lacking : (r : Result Value) → Lacks records turns Lack lack r → Lack ((ending r).outcome)
      lacking (Go v st w) h = absurd h
      lacking (Stop o w) h = h

      at : (r q : Result Value) → Goes r q → (Lack ((ending r).outcome) → ⊥) → ending q ≡ ending r
      at r q (inl h) not = absurd (not (lacking r h))
      at r q (inr e) not = ap ending e ∙ same r

pub more_records_change_nothing : MoreRecordsChangeNothing
more_records_change_nothing p marks records turns not more =
    subst (λ k. run_with p marks (records ++ more) k ≡ run_with p marks records turns) (plus_zero turns) (run_goes p marks more 0 (λ o. o ≡ Results) (record { of_records = inl refl; of_turns = inr refl }) records turns not)

pub more_turns_change_nothing : MoreTurnsChangeNothing
more_turns_change_nothing p marks records turns not more =
    subst (λ rs. run_with p marks rs (turns + more) ≡ run_with p marks records turns) (append-nil records) (subst (λ k. run_with p marks (records ++ []) k ≡ run_with p marks records turns) (plus_is turns more) (run_goes p marks [] more (λ o. o ≡ Turns) (record { of_records = inr refl; of_turns = inl refl }) records turns not))
