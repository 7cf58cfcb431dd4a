use Rattle.std.proofs.Common.{[], ap, sym, subst, arith}
use Rattle.dm_sets.specs.Nodes.{Nodes}
use Rattle.flow_model.specs.Members.{IsSetOf}
use Rattle.flow_model.proofs.FoundLemmas.{set_of_none}
use Rattle.flow_model.proofs.scratch.Scratch.clear.Goals as goal

pub invariant_of-self : goal.invariant_of-self
invariant_of-self c = (
  subst (IsSetOf c.clear.new.self) (sym c.clear-2.ensures.items) (subst (λ s. IsSetOf s []) (sym c.clear.ensures) (set_of_none c.self.inside.members.size)),
  omega (arith, ap (λ (s : Nodes). s.size) c.clear.ensures, c.clear-2.ensures.capacity, c.self.invariant.1),
)
