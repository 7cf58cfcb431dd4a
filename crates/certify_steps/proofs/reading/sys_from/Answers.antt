use Rattle.std.proofs.Common.{◌≡◌, ◌↔◌, Contains, subst, sym, arith}
use Rattle.certify_steps.proofs.ReadingLemmas.{from_node, sys_below, contains_none}
use Rattle.certify_steps.proofs.reading.sys_from.Goals as goal

pub returns-then-node-nodes : goal.returns-then-node-nodes
returns-then-node-nodes c = λ e. subst (λ xs. Contains xs e ↔ (Contains c.args.model.now.sys e × (e.from ≡ c.args.node))) (sym c.sys_from.ensures) (from_node (λ e. e.from) c.args.model.now.sys c.args.node e)

pub returns-else-node-nodes : goal.returns-else-node-nodes
returns-else-node-nodes c = λ e. (
  λ has. absurd (contains_none e has),
  λ (has, from).
      let below = sys_below c.args.model.now e c.nodes.ensures.valid has in
      absurd (omega (arith, below, from)),
)
