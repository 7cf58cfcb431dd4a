use Rattle.std.proofs.Common.{◌≡◌, ◌↔◌, Contains, subst, sym, arith}
use Rattle.dm_base.specs.Adding.{Has}
use Rattle.stack_automaton.proofs.ReadingLemmas.{sites_at, call_below, contains_none}
use Rattle.stack_automaton.proofs.reading.sites_from.Goals as goal

pub returns-then-node-nodes : goal.returns-then-node-nodes
returns-then-node-nodes c = λ s. subst (λ xs. Contains xs s ↔ Has (λ d. (d.from ≡ c.args.node) × (d.site ≡ s)) c.args.model.now.calls) (sym c.calls_from.ensures) (sites_at c.args.model.now c.args.node s)

pub returns-else-node-nodes : goal.returns-else-node-nodes
returns-else-node-nodes c = λ s. (
  λ has. absurd (contains_none s has),
  λ (d, has, (from, site)).
      let below = call_below c.args.model.now d c.nodes.ensures.valid has in
      absurd (omega (arith, below, from)),
)
