use Rattle.std.proofs.Common.{◌≡◌, take}
use Rattle.dm_base.specs.Adding.{Has, Adds}
use Rattle.stack_automaton.proofs.follow.return_to_each.Given as goal

abbrev pub invariant-loop-link : goal.invariant-loop-link
invariant-loop-link l = Adds l.fn.facts.keys l.facts.keys (λ y. Has (λ k. y ≡ record { node = k.to; place = k.place }) (take l.link-index l.links))
