-- What a program does with null calls round its calls, and without: by recursion on its parts, and on turns.
use Rattle.std.proofs.Common.{◌≡◌, ℕ, true, List, [], sym, ap, ◌∙◌, refl}
use Rattle.dm_base.specs.Trace.{erase, output}
use Rattle.sys_table.specs.declared.sys_result.SysResult.{SysResult}
use Rattle.c_tree.specs.declared.value.Value.{Value}
use Rattle.c_tree.specs.Tree.{Program}
use Rattle.c_meaning.specs.Meaning.{Marks}
use Rattle.c_meaning.specs.Results.{Result, Go, Stop}
use Rattle.c_meaning.specs.Runs.{run_with, no_marks, ending, enter, world, beginning}
use Rattle.c_meaning.specs.NullCalls.{AreNullCalls, DifferInNullCalls, NullCallsChangeNothing}
use Rattle.c_meaning.proofs.ErasedNullCalls.{output_erase, bare, Alike, then_alike, instrumented_alike, spend_alike}
use Rattle.c_meaning.proofs.TwoRuns.{Relates, runs_related}

module _ (p : Program) (m n : Marks) (hm : AreNullCalls m) (hn : AreNullCalls n) where
  alike : Relates m n (λ rs. rs) (λ k. k) (λ st. Unit {0}) (λ st. Unit {0}) ⊥ (λ A r q. Alike {A = A} r q)
  alike = record {
    joined = λ A B r q f g h k. then_alike {A = A} {B = B} r q f g h (λ a st. k a st tt);
    go = λ A a st i. refl;
    undefined = λ A kind. refl;
    marked = λ site r q h. instrumented_alike m n hm hn site r q h;
    memory = λ st o i. tt;
    entry = λ st vs i. tt;
    spend = λ A st f g i h. spend_alike {A = A} st.turns st f g (λ st. h st tt);
    ends = λ status. refl;
    takes = λ x q st i. refl;
    null = λ event h vs st i. refl;
  }

  pub run_alike : (records : List SysResult) (turns : ℕ) → DifferInNullCalls (run_with p m records turns) (run_with p n records turns)
  run_alike records turns = record {
    outcome = outcome_of r ∙ (ap (λ z. (ending z).outcome) h ∙ sym (outcome_of q));
    system_calls = calls;
    written = sym (output_erase ((ending r).trace)) ∙ (ap output calls ∙ output_erase ((ending q).trace));
  }
    where
      r : Result Value
      r = enter p (world p m turns) m true p.main [] (beginning p records turns)

      q : Result Value
      q = enter p (world p n turns) n true p.main [] (beginning p records turns)

      h : Alike r q
      h = runs_related p alike (λ no. absurd no) (λ st i. tt) (λ k. refl) (record { enter = λ wanted f vs. record { at = λ st i. refl }; again = λ fr l h. record { at = λ st i. refl } }) records turns tt

      outcome_of : (r : Result Value) → (ending r).outcome ≡ (ending (bare r)).outcome
      outcome_of (Go v st w) = refl
      outcome_of (Stop o w) = refl

      trace_of : (r : Result Value) → erase ((ending r).trace) ≡ (ending (bare r)).trace
      trace_of (Go v st w) = refl
      trace_of (Stop o w) = refl

      calls : erase ((ending r).trace) ≡ erase ((ending q).trace)
      calls = trace_of r ∙ (ap (λ z. (ending z).trace) h ∙ sym (trace_of q))

-- null calls round calls leave a run as it was
pub null_calls_change_nothing : NullCallsChangeNothing
null_calls_change_nothing p marks h records turns = run_alike p marks no_marks h (λ site. (refl, refl)) records turns
