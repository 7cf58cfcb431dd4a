use Rattle.slab.specs.Slab.{get}
use Rattle.stack_automaton.specs.Storing.{Planned}
use Rattle.stack_automaton.proofs.store.plan.Given as goal

abbrev pub invariant-loop-place : goal.invariant-loop-place
invariant-loop-place l = Planned (get l.fn.states) (get l.states) l.found l.known.keys l.keys.items l.place
