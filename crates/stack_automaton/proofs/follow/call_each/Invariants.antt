use Rattle.std.proofs.Common.{◌≡◌, take}
use Rattle.dm_base.specs.Adding.{Has, Adds}
use Rattle.stack_automaton.specs.Links.{AddsLinks}
use Rattle.stack_automaton.specs.Following.{IsCalled}
use Rattle.stack_automaton.proofs.follow.call_each.Given as goal

abbrev pub invariant-loop-function : goal.invariant-loop-function
invariant-loop-function l = Adds l.fn.facts.keys l.facts.keys (λ y. Has (λ f. IsCalled l.functions l.ended.keys l.link f y) (take l.function-index l.candidates))
    × AddsLinks l.fn.links l.links (λ f k. Has (λ h. (f ≡ h) × (k ≡ l.link)) (take l.function-index l.candidates))
