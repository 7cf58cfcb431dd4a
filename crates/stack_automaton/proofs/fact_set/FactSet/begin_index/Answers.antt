use Rattle.std.proofs.Common.{subst}
use Rattle.stack_automaton.proofs.MarksLemmas.{AreSame}
use Rattle.stack_automaton.proofs.fact_set.FactSet.begin_index.Goals as goal

pub add_to_both-requires : goal.add_to_both-requires
add_to_both-requires c = subst (AreSame c.in_ok-self-inside.field-0.keys) c.deref.ensures.value c.in_ok-self-inside.ensures
