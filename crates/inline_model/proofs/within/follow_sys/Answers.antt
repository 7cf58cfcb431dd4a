use Rattle.std.proofs.Common.{◌≡◌, sym, subst, arith}
use Rattle.flow_model.specs.declared.records.SysEdge.{SysEdge}
use Rattle.std.specs.Prelude.{Contains}
use Rattle.flow_model.specs.Growth.{Adds, HasOne}
use Rattle.flow_model.proofs.EdgeBounds.{sys_below}
use Rattle.inline_model.proofs.Edges.{sys_end, end_of_sys}
use Rattle.flow_model.proofs.Grown.{adds-start, adds-more, adds-end, adds-add, adds-like}
use Rattle.flow_model.proofs.Items.{filter-contains}
use Rattle.inline_model.proofs.within.follow_sys.Goals as goal

pub add-requires : goal.add-requires
add-requires c =
    let items = c.sys_from-edge-items.result.now in
    let edge = c.edge-item.result in
    let here : Contains c.sys_from-edge-items.result.now c.edge-item.result = (c.loop-edge.edge-index, c.loop-edge-test.true, sym c.edge-item.is) in
    let below = sys_below c.args.model.now c.nodes-nodes.ensures.valid edge (filter-contains _ c.args.model.now.sys edge (subst (λ xs. Contains xs edge) c.sys_from-edge-items.ensures here)) in
    omega (arith, below, c.loop-edge.invariant.size, c.requires.pool)

pub loop-edge-init : goal.loop-edge-init
loop-edge-init c = adds-start (λ (e : SysEdge) b. e.to ≡ b) c.sys_from-edge-items.result.now c.args.pool.now

pub loop-edge-preserved : goal.loop-edge-preserved
loop-edge-preserved c =
    let edge = c.edge-item.result in
    adds-more (λ (e : SysEdge) b. e.to ≡ b) c.sys_from-edge-items.result.now c.args.pool.now c.loop-edge.pool c.add.new.self c.loop-edge.edge-index edge c.loop-edge-test.true c.edge-item.is c.loop-edge.invariant
    (adds-add c.loop-edge.pool c.add.new.self edge.to c.add.result c.add.ensures.added c.add.ensures.had c.add.ensures.same)

pub returns : goal.returns
returns c =
    let all = adds-end (λ (e : SysEdge) b. e.to ≡ b) c.sys_from-edge-items.result.now c.args.pool.now c.loop-edge.pool c.loop-edge.edge-index (omega (arith, c.loop-edge-test.false)) c.loop-edge.invariant in
    adds-like c.args.pool.now c.loop-edge.pool (subst (λ xs. Adds c.args.pool.now c.loop-edge.pool (HasOne (λ (e : SysEdge) b. e.to ≡ b) xs)) c.sys_from-edge-items.ensures all) (sys_end c.args.model.now c.args.node) (end_of_sys c.args.model.now c.args.node)
