use Rattle.std.proofs.Common.{ap, ◌∙◌, subst, arith}
use Rattle.dm_sets.specs.Nodes.{Nodes, Has}
use Rattle.flow_model.proofs.FoundLemmas.{has_none}
use Rattle.flow_model.proofs.Filled.{filled_only, filled_has}
use Rattle.flow_model.proofs.scratch.Scratch.fill.Goals as goal

pub loop-node-init : goal.loop-node-init
loop-node-init c = record {
  size = ap (λ (s : Nodes). s.size) c.clear.ensures;
  only = λ a has. absurd (has_none c.args.set.now.size a (subst (λ s. Has s a) c.clear.ensures has));
  has = λ a there. absurd (omega (arith, there.1));
}

pub loop-node-preserved : goal.loop-node-preserved
loop-node-preserved c = record {
  size = ap (λ (s : Nodes). s.size) c.insert.ensures.added ∙ c.loop-node.invariant.size;
  only = filled_only c.loop-node.set c.insert.new.self c.nodes-node-items.result.now c.loop-node.node-index c.loop-node-test.true c.insert.ensures.added c.loop-node.invariant.only;
  has = filled_has c.loop-node.set c.insert.new.self c.nodes-node-items.result.now c.loop-node.node-index c.loop-node-test.true c.insert.ensures.added c.loop-node.invariant.has;
}
