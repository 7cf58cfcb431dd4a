use Rattle.std.proofs.Common.{ℕ, ◌<◌, get_or}
use Rattle.inline_model.specs.Saturating.{HasExit}
use Rattle.inline_model.proofs.within.may_pass.Given as goal

abbrev pub invariant-loop-function : goal.invariant-loop-function
invariant-loop-function l = (k : ℕ) → k < l.function-index → HasExit l.model l.done (get_or l.function-items k 0) → ⊥
