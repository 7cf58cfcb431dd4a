use Rattle.std.proofs.Common.{◌≡◌, sym, ap, ◌∙◌, Some, arith}
use Rattle.std.specs.Prelude.{slice_get}
use Rattle.dm_sets.specs.Nodes.{Nodes}
use Rattle.inline_model.proofs.Saturating.{turn, saturated}
use Rattle.flow_model.proofs.Items.{none_from}
use Rattle.inline_model.proofs.within.nodes_within.Goals as goal

pub loop-node-init : goal.loop-node-init
loop-node-init c = c.add_entries.ensures c.in_ok-done.done (ap (λ (s : Nodes). s.size) c.in_ok-done.ensures ∙ c.nodes.ensures.nodes) (ap (λ (s : Nodes). s.members) c.in_ok-done.ensures)

pub loop-node-preserved : goal.loop-node-preserved
loop-node-preserved c =
    let is : slice_get c.loop-node.pool.nodes c.loop-node.i ≡ Some c.in-Some.node = sym c.get.ensures.get ∙ c.in-Some.is in
    turn c.args.model.now c.nodes.ensures.valid c.loop-node.pool c.visit.new.pool c.loop-node.done c.insert.new.self c.loop-node.i c.in-Some.node is c.insert.ensures.added c.visit.ensures c.loop-node.invariant

pub returns : goal.returns
returns c = saturated c.args.model.now c.loop-node.pool c.loop-node.done c.loop-node.i c.loop-node.invariant (none_from c.loop-node.pool.nodes c.loop-node.i (sym c.get.ensures.get ∙ c.in_default.is))
