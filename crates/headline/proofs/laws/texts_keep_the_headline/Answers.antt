use Rattle.std.proofs.Common.{◌≡◌, ℕ, ◌≤◌, List, length, subst}
use Rattle.dm_base.specs.declared.mode.Mode.TheVariants.{Instrumented}
use Rattle.sys_table.specs.declared.sys_result.SysResult.{SysResult}
use Rattle.null_calls_laws.specs.MarkedRuns.{marked_run}
use Rattle.c_meaning.specs.Runs.{run}
use Rattle.c_rules.specs.Accepted.{IsAcceptedAs}
use Rattle.c_tree.specs.Tree.{Program}
use Rattle.null_calls_laws.specs.InstrumentedTexts.{instrumented_text, DoesAsMarked}
use Rattle.headline.specs.AcceptedRuns.{RaisesNoAlarm}
use Rattle.headline.proofs.Contained.{models_of, nested, verdict_is_membership}
use Rattle.headline.proofs.laws.texts_keep_the_headline.Goals as goal

pub returns : goal.returns
returns c text p reading =
    let quiet : RaisesNoAlarm p = c.texts_raise_no_alarm.ensures text p reading in
    let instrumented : List ℕ = instrumented_text p reading.unit in
    record {
      accepted = λ short. let found = made short in (found.0, found.1);
      runs = λ q is. of_one q is (made is.lexed.short);
      same = λ records turns.
          let differ = c.marked_runs_are_runs.ensures.differ p records turns in
          record { outcome = differ.outcome; output = differ.written; erased = quiet.erased records turns };
      contained = λ records turns. quiet.marked_words records turns;
      nested = nested p quiet.graph c.languages_are_nested.ensures.dyck c.languages_are_nested.ensures.stack;
      models = λ w. models_of p quiet.graph w;
      exact = λ w bound t. verdict_is_membership p quiet.graph w bound t;
    }
  where
    made : length (instrumented_text p reading.unit) ≤ 16777216 → (q : Program) × IsAcceptedAs (instrumented_text p reading.unit) Instrumented q × DoesAsMarked p q
    made short = c.instrumented_texts_are_accepted.ensures text reading.tokens reading.unit p reading.lexed reading.spelled reading.typed short

    of_one : (q : Program) → IsAcceptedAs (instrumented_text p reading.unit) Instrumented q → ((r : Program) × IsAcceptedAs (instrumented_text p reading.unit) Instrumented r × DoesAsMarked p r) → (records : List SysResult) (turns : ℕ) → run q records turns ≡ marked_run p records turns
    of_one q is found records turns =
        subst (λ (r : Program). run r records turns ≡ marked_run p records turns)
        (c.a_text_is_accepted_as_one_program.ensures (instrumented_text p reading.unit) Instrumented found.0 q found.1 is) (found.2.runs records turns)
