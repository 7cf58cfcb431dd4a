use Rattle.std.proofs.Common.{◌≡◌, length, Contains, nat_eq, ap, sym, subst, arith}
use Rattle.std.proofs.lemmas.List.Elements.{Contains-get_or}
use Rattle.dm_base.specs.Fits.{Fits}
use Rattle.flow_model.specs.declared.records.SysEdge.{SysEdge}
use Rattle.flow_model.specs.Growth.{Adds, HasOne}
use Rattle.flow_model.proofs.EdgeBounds.{sys_below}
use Rattle.callgraph_monitor.proofs.Edges.{sys_end, end_of_sys}
use Rattle.flow_model.proofs.Grown.{adds-start, adds-more, adds-end, adds-like}
use Rattle.flow_model.proofs.Items.{filter-contains}
use Rattle.callgraph_monitor.proofs.reading.read_from.Goals as goal

pub read_edge-requires : goal.read_edge-requires
read_edge-requires g c =
    let items = c.sys_from-edge-items.result.now in
    let edge = c.edge-item.result in
    let here = subst (Contains items) (sym c.edge-item.is) (Contains-get_or items c.loop-edge.edge-index edge c.loop-edge-test.true) in
    let below = sys_below c.args.model.now c.requires.valid edge (filter-contains (λ (e : SysEdge). nat_eq e.from c.args.node) c.args.model.now.sys edge (subst (λ xs. Contains xs edge) c.sys_from-edge-items.ensures here)) in
    omega (arith, below, c.loop-edge.invariant.added.size, c.requires.pool)

pub loop-edge-init : goal.loop-edge-init
loop-edge-init g c = record {
  added = adds-start (λ (e : SysEdge) b. Fits e.name e.args c.args.event.now × (e.to ≡ b)) c.sys_from-edge-items.result.now c.args.pool.now;
  cost = omega arith;
}

pub loop-edge-preserved : goal.loop-edge-preserved
loop-edge-preserved g c = record {
  added = adds-more (λ (e : SysEdge) b. Fits e.name e.args c.args.event.now × (e.to ≡ b)) c.sys_from-edge-items.result.now c.args.pool.now c.loop-edge.pool c.read_edge.new.pool c.loop-edge.edge-index c.edge-item.result c.loop-edge-test.true c.edge-item.is c.loop-edge.invariant.added c.read_edge.ensures;
  cost = omega (arith, c.tick.ensures, c.loop-edge.invariant.cost);
}

pub returns-clause-added : goal.returns-clause-added
returns-clause-added g c =
    let all = adds-end (λ (e : SysEdge) b. Fits e.name e.args c.args.event.now × (e.to ≡ b)) c.sys_from-edge-items.result.now c.args.pool.now c.loop-edge.pool c.loop-edge.edge-index (omega (arith, c.loop-edge-test.false)) c.loop-edge.invariant.added in
    adds-like c.args.pool.now c.loop-edge.pool (subst (λ xs. Adds c.args.pool.now c.loop-edge.pool (HasOne (λ (e : SysEdge) b. Fits e.name e.args c.args.event.now × (e.to ≡ b)) xs)) c.sys_from-edge-items.ensures all) (sys_end c.args.model.now c.args.event.now c.args.node) (end_of_sys c.args.model.now c.args.event.now c.args.node)

pub returns-clause-cost : goal.returns-clause-cost
returns-clause-cost g c = omega (arith, c.loop-edge.invariant.cost, c.loop-edge-test.false, c.loop-edge.auto.edge-index-end, ap length c.sys_from-edge-items.ensures)
