use Rattle.std.proofs.Common.{take}
use Rattle.dm_base.specs.Adding.{Has}
use Rattle.certify.specs.Closing.{GoesPast}
use Rattle.certify.proofs.claim.has_past.Given as goal

abbrev pub invariant-loop-line : goal.invariant-loop-line
invariant-loop-line l = Has (λ k. GoesPast l.model l.trace l.last k.fact) (take l.line-index l.lines) → ⊥
