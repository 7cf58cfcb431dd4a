use Rattle.slab.specs.Slab.{get}
use Rattle.stack_automaton.specs.Resolving.{AreResolved}
use Rattle.stack_automaton.specs.Storing.{Grows}
use Rattle.stack_automaton.proofs.resolve.resolve_as_found.Given as goal

abbrev pub invariant-loop-place : goal.invariant-loop-place
invariant-loop-place l = record {
  grown : Grows (get l.fn.states) (get l.states);
  resolved : AreResolved (get l.states) l.keys.items l.known.keys l.links;
}
