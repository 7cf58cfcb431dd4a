use Rattle.std.proofs.Common.{◌≡◌, ◌↔◌, Contains, length, ap, subst, sym, arith}
use Rattle.dm_base.specs.Adding.{Has}
use Rattle.certify_steps.proofs.ReadingLemmas.{sites_of_function, candidate_below, contains_none}
use Rattle.certify_steps.proofs.reading.sites_into.Goals as goal

pub returns-then-function-functions : goal.returns-then-function-functions
returns-then-function-functions c = λ s. subst (λ xs. Contains xs s ↔ Has (λ d. Contains d.candidates c.args.function × (d.site ≡ s)) c.args.model.now.calls) (sym c.returns_of.ensures) (sites_of_function c.args.model.now c.args.function s)

pub returns-else-function-functions : goal.returns-else-function-functions
returns-else-function-functions c = λ s. (
  λ has. absurd (contains_none s has),
  λ (d, has, (candidate, site)).
      let below = candidate_below c.args.model.now d c.args.function c.nodes-nodes.ensures.valid has candidate in
      absurd (omega (arith, below, ap length c.functions.ensures)),
)
