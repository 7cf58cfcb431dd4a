use Rattle.std.proofs.Common.{◌≡◌, length, get_or, subst, arith}
use Rattle.flow_model.specs.declared.records.SilentEdge.{SilentEdge}
use Rattle.std.specs.Prelude.{Contains}
use Rattle.std.proofs.lemmas.List.Elements.{Contains-get_or}
use Rattle.flow_model.specs.Growth.{Adds, HasOne}
use Rattle.flow_model.proofs.EdgeBounds.{silent_below}
use Rattle.flow_model.proofs.SilentEnds.{silent_end, end_of_silent}
use Rattle.flow_model.proofs.Grown.{adds-start, adds-more_read, adds-end, adds-add, adds-like}
use Rattle.flow_model.proofs.Items.{filter-contains}
use Rattle.inline_model.proofs.within.follow_silent.Goals as goal

abbrev nothing : SilentEdge
nothing = record { from = 0; to = 0 }

pub add-requires : goal.add-requires
add-requires c =
    let items = c.silent_from-edge-items.result.now in
    let edge = get_or items c.loop-edge.edge-index nothing in
    let here = Contains-get_or items c.loop-edge.edge-index nothing c.loop-edge-test.true in
    let below = silent_below c.args.model.now c.nodes-nodes.ensures.valid edge (filter-contains _ c.args.model.now.silent edge (subst (λ xs. Contains xs edge) c.silent_from-edge-items.ensures here)) in
    omega (arith, below, c.loop-edge.invariant.size, c.requires.pool)

pub loop-edge-init : goal.loop-edge-init
loop-edge-init c = adds-start (λ (e : SilentEdge) b. e.to ≡ b) c.silent_from-edge-items.result.now c.args.pool.now

pub loop-edge-preserved : goal.loop-edge-preserved
loop-edge-preserved c =
    let edge = get_or c.silent_from-edge-items.result.now c.loop-edge.edge-index nothing in
    adds-more_read (λ (e : SilentEdge) b. e.to ≡ b) c.silent_from-edge-items.result.now c.args.pool.now c.loop-edge.pool c.add.new.self c.loop-edge.edge-index nothing c.loop-edge-test.true c.loop-edge.invariant
    (adds-add c.loop-edge.pool c.add.new.self edge.to c.add.result c.add.ensures.added c.add.ensures.had c.add.ensures.same)

pub returns : goal.returns
returns c =
    let all = adds-end (λ (e : SilentEdge) b. e.to ≡ b) c.silent_from-edge-items.result.now c.args.pool.now c.loop-edge.pool c.loop-edge.edge-index (omega (arith, c.loop-edge-test.false)) c.loop-edge.invariant in
    adds-like c.args.pool.now c.loop-edge.pool (subst (λ xs. Adds c.args.pool.now c.loop-edge.pool (HasOne (λ (e : SilentEdge) b. e.to ≡ b) xs)) c.silent_from-edge-items.ensures all) (silent_end c.args.model.now c.args.node) (end_of_silent c.args.model.now c.args.node)
