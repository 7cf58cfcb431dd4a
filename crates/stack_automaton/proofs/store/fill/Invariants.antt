use Rattle.slab.specs.Slab.{get}
use Rattle.stack_automaton.specs.Storing.{Filled}
use Rattle.stack_automaton.proofs.store.fill.Given as goal

abbrev pub invariant-loop-place : goal.invariant-loop-place
invariant-loop-place l = Filled (get l.fn.states) (get l.states) l.keys l.known.keys l.links l.place
