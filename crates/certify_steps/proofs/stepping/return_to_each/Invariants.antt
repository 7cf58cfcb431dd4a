use Rattle.std.proofs.Common.{take, ◌≡◌, ℕ}
use Rattle.dm_base.specs.Adding.{Has}
use Rattle.certify_steps.specs.Adding.{Adds}
use Rattle.certify_steps.specs.Stepping.{IsOfReturn}
use Rattle.certify_steps.proofs.stepping.return_to_each.Given as goal

abbrev pub invariant-loop-site : goal.invariant-loop-site
invariant-loop-site q = Adds q.fn.found.items q.found.items (λ l. Has (λ (s : ℕ). Has (λ d. (d.site ≡ s) × IsOfReturn q.number q.fact d l) q.model.calls) (take q.site-index q.sites))
