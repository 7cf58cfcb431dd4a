use Rattle.std.proofs.Common.{◌≡◌, [], Contains, take}
use Rattle.dm_base.specs.Adding.{Has, Gains}
use Rattle.stack_automaton.proofs.fact_set.index_of.Given as goal

abbrev pub invariant-loop-fact : goal.invariant-loop-fact
invariant-loop-fact l = Gains (Contains []) (Contains l.index.keys) (λ y. Has (λ x. y ≡ x) (take l.fact-index l.facts))
