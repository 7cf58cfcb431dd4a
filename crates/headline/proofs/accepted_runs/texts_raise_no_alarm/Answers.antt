use Rattle.std.proofs.Common.{ℕ}
use Rattle.c_tree.specs.Program.{IsProgram}
use Rattle.dm_base.specs.declared.mode.Mode.TheVariants.{Plain}
use Rattle.c_meaning.specs.WithoutNullCalls.{MakesNoNullCall}
use Rattle.headline.proofs.accepted_runs.texts_raise_no_alarm.Goals as goal

pub returns : goal.returns
returns c text p h =
    let n : ℕ = (c.accepted_texts_are_programs.ensures text Plain p h).0 in
    let typed : IsProgram p n = (c.accepted_texts_are_programs.ensures text Plain p h).1 in
    let free : MakesNoNullCall p = c.a_plain_text_makes_no_null_call.ensures text p h in
    record {
      words = c.runs_raise_no_alarm.ensures.runs p n typed;
      marked_words = c.runs_raise_no_alarm.ensures.marked_runs p n typed free;
      graph = record {
        callgraph = c.program_graph_has_the_words.ensures.callgraph p n typed;
        stack = c.program_graph_has_the_words.ensures.stack p n typed;
        dyck = c.program_graph_has_the_words.ensures.dyck p n typed;
      };
      accepted = λ records turns bound. c.monitors_accept_runs.ensures.runs p n typed records turns bound;
      marked_accepted = λ records turns bound. c.monitors_accept_runs.ensures.marked_runs p n typed free records turns bound;
      erased = λ records turns. c.marked_runs_are_runs.ensures.erased p free records turns;
    }
