use Rattle.std.proofs.Common.{take}
use Rattle.certify_facts.specs.Confirms.{IsAfter}
use Rattle.dm_base.specs.Adding.{Has}
use Rattle.certify.proofs.claim.has_after.Given as goal

abbrev pub invariant-loop-line : goal.invariant-loop-line
invariant-loop-line l = Has (λ k. IsAfter l.events k.fact) (take l.line-index l.lines) → ⊥
