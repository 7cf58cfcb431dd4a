use Rattle.std.proofs.Common.{ap, sym, subst, arith}
use Rattle.dm_sets.specs.Nodes.{Nodes}
use Rattle.flow_model.specs.Members.{IsSetOf}
use Rattle.flow_model.proofs.FoundLemmas.{set_of_none}
use Rattle.flow_model.proofs.scratch.Scratch.new.Goals as goal

pub invariant_of-result : goal.invariant_of-result
invariant_of-result c = (
  subst (IsSetOf c.in_ok-new.field-0) (sym c.in_ok-with_capacity.ensures.items) (subst (λ s. IsSetOf s _) (sym c.in_ok-new.ensures) (set_of_none c.nodes.result)),
  omega (arith, ap (λ (s : Nodes). s.size) c.in_ok-new.ensures, c.in_ok-with_capacity.ensures.capacity, c.nodes.ensures.nodes, c.nodes-2.ensures.nodes),
)
