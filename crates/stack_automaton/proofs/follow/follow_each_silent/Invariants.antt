use Rattle.std.proofs.Common.{◌≡◌, take}
use Rattle.dm_base.specs.Adding.{Has, Adds}
use Rattle.stack_automaton.proofs.follow.follow_each_silent.Given as goal

abbrev pub invariant-loop-edge : goal.invariant-loop-edge
invariant-loop-edge l = Adds l.fn.facts.keys l.facts.keys (λ y. Has (λ e. y ≡ record { node = e.to; place = l.place }) (take l.edge-index l.edges))
