use Rattle.std.proofs.Common.{take, ℕ}
use Rattle.certify_making.specs.Pairs.{IsPairWith}
use Rattle.dm_base.specs.Adding.{Has}
use Rattle.certify_steps.specs.Adding.{Adds}
use Rattle.certify_making.proofs.pairs.pair_each.Given as goal

abbrev pub invariant-loop-other : goal.invariant-loop-other
invariant-loop-other q = Adds q.fn.found.items q.found.items (λ l. Has (λ (n : ℕ). IsPairWith q.model q.lines q.fact q.number n l) (take q.other-index q.others))
