use Rattle.std.proofs.Common.{◌≡◌, ◌↔◌, ◌<◌, ◌≤◌, List, length, get_or, sym, ap, subst, arith}
use Rattle.dm_base.specs.Fits.{Fits}
use Rattle.flow_model.specs.declared.records.SysEdge.{SysEdge}
use Rattle.dyck_monitor.specs.Adding.{IsOfOne}
use Rattle.dyck_monitor.specs.Moves.{IsRead}
use Rattle.dyck_monitor.proofs.Adding.{adds_start, adds_more, adds_all}
use Rattle.dyck_monitor.proofs.Edges.{sys_from_below, sys_of_node}
use Rattle.dyck_monitor.proofs.moves.add_ends.Goals as goal

pub loop-edge-init : goal.loop-edge-init
loop-edge-init g c = record {
  adds = adds_start (λ (e : SysEdge) b. Fits e.name e.args c.args.event.now × (e.to ≡ b)) c.sys_from-edge-items.result.now c.args.pool.now;
  counted = omega arith;
}

pub add_end-requires : goal.add_end-requires
add_end-requires g c =
    let same = c.sys_from-edge-items.ensures in
    let lt = subst (λ (es : List SysEdge). c.loop-edge.edge-index < length es) same c.loop-edge-test.true in
    let is = subst (λ (es : List SysEdge). c.edge-item.result ≡ get_or es c.loop-edge.edge-index c.edge-item.result) same c.edge-item.is in
    omega (arith, sys_from_below c.args.model.now c.requires.valid c.args.node c.loop-edge.edge-index c.edge-item.result lt is, c.loop-edge.invariant.adds.size, c.requires.size)

pub loop-edge-preserved : goal.loop-edge-preserved
loop-edge-preserved g c = record {
  adds = adds_more (λ (e : SysEdge) b. Fits e.name e.args c.args.event.now × (e.to ≡ b)) c.sys_from-edge-items.result.now c.loop-edge.edge-index c.edge-item.result c.args.pool.now c.loop-edge.pool c.add_end.new.pool
      c.loop-edge-test.true c.edge-item.is c.loop-edge.invariant.adds c.add_end.ensures;
  counted = omega (arith, c.tick.ensures, c.loop-edge.invariant.counted);
}

pub returns-clause-ends : goal.returns-clause-ends
returns-clause-ends g c =
    let same = c.sys_from-edge-items.ensures in
    let over : length c.sys_from-edge-items.result.now ≤ c.loop-edge.edge-index = omega arith in
    adds_all (λ (e : SysEdge) b. Fits e.name e.args c.args.event.now × (e.to ≡ b)) c.sys_from-edge-items.result.now (IsRead c.args.model.now (λ a. a ≡ c.args.node) c.args.event.now) c.loop-edge.edge-index c.args.pool.now c.loop-edge.pool over
    (λ b. subst (λ (es : List SysEdge). IsOfOne es (λ e b. Fits e.name e.args c.args.event.now × (e.to ≡ b)) b ↔ IsRead c.args.model.now (λ a. a ≡ c.args.node) c.args.event.now b) (sym same) (sys_of_node c.args.model.now c.args.node c.args.event.now b))
    c.loop-edge.invariant.adds

pub returns-clause-cost : goal.returns-clause-cost
returns-clause-cost g c =
    let same = ap length c.sys_from-edge-items.ensures in
    omega (arith, same, c.loop-edge.invariant.counted)
