use Rattle.std.proofs.Common.{[], take}
use Rattle.dm_base.specs.Adding.{Has, Adds}
use Rattle.stack_automaton.specs.Moving.{IsReadFrom}
use Rattle.stack_automaton.proofs.event.first_facts.Given as goal

abbrev pub invariant-loop-edge : goal.invariant-loop-edge
invariant-loop-edge l = Adds [] l.facts.keys (λ x. Has (λ e. IsReadFrom l.model l.event e x) (take l.edge-index l.edges))
