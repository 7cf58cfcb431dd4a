use Rattle.slab.specs.Slab.{get}
use Rattle.stack_automaton.specs.Noting.{IsSwept}
use Rattle.stack_automaton.proofs.notes.sweep_states.Given as goal

abbrev pub invariant-loop-key : goal.invariant-loop-key
invariant-loop-key l = IsSwept (get l.fn.states) (get l.states) l.noted.keys l.last l.key
