-- The parts of the law, put together.
use Rattle.std.proofs.Common.{◌≡◌, ℕ, List, sym, subst}
use Rattle.dm_base.specs.Trace.{erase}
use Rattle.dm_base.specs.declared.mode.Mode.TheVariants.{Instrumented}
use Rattle.sys_table.specs.declared.sys_result.SysResult.{SysResult}
use Rattle.c_syntax.specs.Spelling.{IsReadAs}
use Rattle.c_syntax.specs.Tree.{Items}
use Rattle.c_tree.specs.Tree.{Program}
use Rattle.c_rules.specs.Accepted.{IsAcceptedAs}
use Rattle.c_rules.specs.Units.{IsTyped}
use Rattle.c_meaning.specs.NullCalls.{DifferInNullCalls}
use Rattle.c_meaning.specs.Runs.{Run, run}
use Rattle.c_meaning.specs.WithoutNullCalls.{MakesNoNullCall}
use Rattle.c_meaning.specs.MarkedRuns.{marked_run, MarkedRunsDifferInNullCalls, ErasedMarkedRunsAreRuns}
use Rattle.null_calls_laws.specs.IsWithNullCalls.{IsWithNullCalls}
use Rattle.null_calls_laws.specs.PlaceLaws.{UnitsAreTypedAlike}
use Rattle.null_calls_laws.specs.InstrumentedTexts.{DoesAsMarked}

pub does_as_marked : MarkedRunsDifferInNullCalls → ErasedMarkedRunsAreRuns → (p q : Program) → MakesNoNullCall p → IsWithNullCalls p q → ((records : List SysResult) (turns : ℕ) → run q records turns ≡ marked_run p records turns) → DoesAsMarked p q
does_as_marked differ erased p q none with_null_calls runs = record {
  with_null_calls = with_null_calls;
  runs = runs;
  differ = λ records turns. subst (λ (r : Run). DifferInNullCalls r (run p records turns)) (sym (runs records turns)) (differ p records turns);
  erased = λ records turns. subst (λ (r : Run). erase r.trace ≡ (run p records turns).trace) (sym (runs records turns)) (erased p none records turns);
}

pub accepted : UnitsAreTypedAlike → (text : List ℕ) (u : Items) (q : Program) → IsReadAs text u → IsTyped u Instrumented q → IsAcceptedAs text Instrumented q
accepted alike text u q read typed =
    record { tokens = read.tokens; unit = read.other; lexed = read.lexed; spelled = read.spelled; typed = alike u read.other Instrumented q (sym read.same) typed }
