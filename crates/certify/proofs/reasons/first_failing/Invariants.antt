use Rattle.std.proofs.Common.{ℕ, ◌<◌}
use Rattle.certify_facts.specs.Confirms.{HoldsAt}
use Rattle.certify.proofs.reasons.first_failing.Given as goal

abbrev pub invariant-loop-place : goal.invariant-loop-place
invariant-loop-place l = (j : ℕ) → j < l.place → HoldsAt l.model l.trace l.lines j
