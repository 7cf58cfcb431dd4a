use Rattle.std.proofs.Common.{◌≡◌, ◌<◌, get_or, sum_by, Contains, sym, ap, ◌∙◌, subst, Some, refl, arith}
use Rattle.std.specs.Prelude.{slice_get}
use Rattle.std.proofs.lemmas.List.{take_all}
use Rattle.std.proofs.lemmas.List.Elements.{Contains-get_or}
use Rattle.flow_model.specs.Language.Walk.{over}
use Rattle.callgraph_monitor.specs.Space.{AreEnds}
use Rattle.callgraph_monitor.specs.Visits.{visit_cost}
use Rattle.callgraph_monitor.proofs.Bounds.{quiet_below}
use Rattle.flow_model.proofs.Items.{none_from}
use Rattle.callgraph_monitor.proofs.Closed.{closed_walk, turn_long, turn_reached, turn_closed, turn_cost}
use Rattle.flow_model.proofs.Grown.{adds-still, adds-like}
use Rattle.callgraph_monitor.proofs.visiting.saturate.Given.{Over}
use Rattle.callgraph_monitor.proofs.visiting.saturate.Goals as goal
use Rattle.callgraph_monitor.proofs.visiting.saturate.Goals.{After-from}

-- the node of the turn
below : (g : Over) (c : After-from g) → c.in-Some.node < c.args.model.now.nodes
below g c = omega (arith, c.in-Some.ensures.below, c.loop-node.invariant.size)

-- its ends
ends : (g : Over) (c : After-from g) → AreEnds c.args.model.now c.in-Some.node c.from.result.now
ends g c = subst (AreEnds c.args.model.now c.in-Some.node) (sym c.from.ensures) (c.requires.quiet.each c.in-Some.node (below g c))

pub from-requires : goal.from-requires
from-requires g c = omega (arith, c.in-Some.ensures.below, c.loop-node.invariant.size, c.requires.quiet.long)

pub add_all-requires : goal.add_all-requires
add_all-requires g c =
    let list = c.from.result.now in
    let at = ends g (goal.at.add_all-requires g c).After-from in
    λ k d lt. omega (arith, quiet_below c.args.model.now c.nodes-nodes.ensures.valid c.in-Some.node (get_or list k d) ((at.exact (get_or list k d)).0 (Contains-get_or list k d lt)), c.loop-node.invariant.size)

pub loop-node-init : goal.loop-node-init
loop-node-init g c = record {
  size = c.requires.pool;
  within = omega arith;
  kept = λ b has. has;
  reached = λ b has. (b, has, over);
  closed = λ b d has step. absurd (omega (arith, has.1));
  cost = omega arith;
  rise = omega arith;
}

pub loop-node-preserved : goal.loop-node-preserved
loop-node-preserved g c =
    let at = ends g (goal.at.loop-node-preserved g c).After-from in
    let model = c.args.model.now in
    let old = c.loop-node.pool in
    let new = c.add_all.new.pool in
    let i = c.loop-node.i in
    let node = c.in-Some.node in
    let is : slice_get old.nodes i ≡ Some node = sym c.get.ensures.get ∙ c.in-Some.is in
    let before = c.loop-node.invariant in
    let adds = adds-like old new c.add_all.ensures.added (λ b has. (at.exact b).0 has) (λ b step. (at.exact b).1 step) in
    record {
      size = adds.size ∙ before.size;
      within = turn_long model old new i node is adds;
      kept = λ b has. adds-still old new adds b (before.kept b has);
      reached = turn_reached model old new i node is adds c.args.pool.now.nodes before.reached;
      closed = turn_closed model old new i node is adds before.closed;
      cost = omega (arith, before.cost, c.add_all.ensures.cost, at.few, turn_cost model old new i node is adds);
      rise = omega (arith, before.rise, c.add_all.ensures.cost);
    }

pub returns-clause-closed : goal.returns-clause-closed
returns-clause-closed g c =
    let nodes = c.loop-node.pool.nodes in
    let over = none_from nodes c.loop-node.i (sym c.get.ensures.get ∙ c.in_default.is) in
    let all = take_all c.loop-node.i nodes over in
    λ b d has walk. closed_walk c.args.model.now nodes (λ x y there step. c.loop-node.invariant.closed x y (subst (λ xs. Contains xs x) (sym all) there) step) (c.loop-node.invariant.kept b has) walk refl

pub returns-clause-cost : goal.returns-clause-cost
returns-clause-cost g c =
    let nodes = c.loop-node.pool.nodes in
    let over = none_from nodes c.loop-node.i (sym c.get.ensures.get ∙ c.in_default.is) in
    omega (arith, c.loop-node.invariant.cost, ap (sum_by (visit_cost c.args.model.now)) (take_all c.loop-node.i nodes over))
