use Rattle.std.proofs.Common.{take, ℕ}
use Rattle.certify_steps.specs.Stepping.{IsCalledBy}
use Rattle.dm_base.specs.Adding.{Has}
use Rattle.certify_steps.specs.Adding.{Adds}
use Rattle.certify_steps.proofs.stepping.call_each.Given as goal

abbrev pub invariant-loop-function : goal.invariant-loop-function
invariant-loop-function q = Adds q.fn.found.items q.found.items (λ l. Has (λ (f : ℕ). IsCalledBy q.functions q.number q.fact q.site f l) (take q.function-index q.candidates))
