use Rattle.std.proofs.Common.{◌≡◌, ◌<◌, ◌+◌, ltb, arith, ◌∙◌}
use Rattle.dm_sets.specs.Nodes.{Has}
use Rattle.dyck_monitor.specs.Moves.{IsRead}
use Rattle.dyck_monitor.proofs.Adding.{adds_nothing, adds_then, adds_as}
use Rattle.dyck_monitor.proofs.Counting.{below_more_few, filter_few}
use Rattle.dyck_monitor.proofs.Edges.{read_none, read_more, read_all}
use Rattle.dyck_monitor.proofs.moves.read.Goals as goal

pub loop-node-init : goal.loop-node-init
loop-node-init g c = record {
  adds = adds_nothing (IsRead c.args.model.now (λ a. Has c.args.nodes.now a × (a < 0)) c.args.event.now) c.args.pool.now (λ b read. absurd (read_none c.args.model.now (Has c.args.nodes.now) c.args.event.now b read));
  within = omega arith;
  counted = omega arith;
  rise = omega arith;
}

pub add_ends-requires-clause-size : goal.add_ends-requires-clause-size
add_ends-requires-clause-size g c = c.loop-node.invariant.adds.size ∙ c.requires.size

pub loop-node-smaller : goal.loop-node-smaller
loop-node-smaller g c = omega (arith, c.in-Some.ensures.some, c.loop-node.invariant.within)

pub loop-node-preserved : goal.loop-node-preserved
loop-node-preserved g c =
    let model = c.args.model.now in
    let from = c.loop-node.from in
    let node = c.in-Some.node in
    let some = c.in-Some.ensures.some in
    record {
      adds = adds_then (IsRead model (λ a. Has c.args.nodes.now a × (a < from)) c.args.event.now) (IsRead model (λ a. a ≡ node) c.args.event.now) (IsRead model (λ a. Has c.args.nodes.now a × (a < node + 1)) c.args.event.now)
          c.args.pool.now c.loop-node.pool c.add_ends.new.pool (read_more model (Has c.args.nodes.now) c.args.event.now from node some.0 some.2 c.in-Some.ensures.least) c.loop-node.invariant.adds c.add_ends.ensures.ends;
      within = omega (arith, some.1);
      counted = omega (arith, c.loop-node.invariant.counted, c.add_ends.ensures.cost, below_more_few (λ e. e.from) from node some.0 model.sys);
      rise = omega (arith, c.loop-node.invariant.rise, c.add_ends.ensures.cost);
    }

pub returns-clause-ends : goal.returns-clause-ends
returns-clause-ends g c =
    let model = c.args.model.now in
    let from = c.loop-node.from in
    adds_as (IsRead model (λ a. Has c.args.nodes.now a × (a < from)) c.args.event.now) (IsRead model (Has c.args.nodes.now) c.args.event.now) c.args.pool.now c.loop-node.pool (read_all model (Has c.args.nodes.now) c.args.event.now from c.in_default.ensures.none) c.loop-node.invariant.adds

pub returns-clause-cost : goal.returns-clause-cost
returns-clause-cost g c = omega (arith, c.loop-node.invariant.counted, filter_few (λ e. ltb e.from c.loop-node.from) c.args.model.now.sys)
