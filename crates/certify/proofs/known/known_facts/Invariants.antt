use Rattle.std.proofs.Common.{◌≡◌, ◌↔◌, take, Contains}
use Rattle.certify_facts.specs.declared.fact.Fact.{Fact}
use Rattle.dm_base.specs.Adding.{Has}
use Rattle.certify.proofs.known.known_facts.Given as goal

abbrev pub invariant-loop-line : goal.invariant-loop-line
invariant-loop-line l = (x : Fact) → Contains l.known.keys x ↔ Has (λ k. x ≡ k.fact) (take l.line-index l.lines)
