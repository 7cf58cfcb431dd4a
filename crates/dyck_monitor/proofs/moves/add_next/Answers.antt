use Rattle.std.proofs.Common.{◌≡◌, ◌↔◌, ◌<◌, ◌≤◌, List, length, get_or, sym, ap, subst, arith, eqb, All}
use Rattle.std.proofs.lemmas.List.{get_or_default}
use Rattle.std.proofs.lemmas.List.Elements.{All-filter}
use Rattle.flow_model.specs.declared.records.SilentEdge.{SilentEdge}
use Rattle.flow_model.specs.Graph.{HasSilent}
use Rattle.dyck_monitor.specs.Adding.{IsOfOne}
use Rattle.dyck_monitor.proofs.Adding.{adds_start, adds_more, adds_all}
use Rattle.dyck_monitor.proofs.Edges.{silent_below, silent_of_node}
use Rattle.dyck_monitor.proofs.moves.add_next.Goals as goal

pub loop-edge-init : goal.loop-edge-init
loop-edge-init g c = record {
  adds = adds_start (λ (e : SilentEdge) b. e.to ≡ b) c.silent_from-edge-items.result.now c.args.pool.now;
  counted = omega arith;
}

abbrev nowhere : SilentEdge
nowhere = record { from = 0; to = 0 }

pub note-requires : goal.note-requires
note-requires g c =
    let es = c.silent_from-edge-items.result.now in
    let i = c.loop-edge.edge-index in
    let below = subst (λ (es : List SilentEdge). All (λ e. e.to < c.args.model.now.nodes) es) (sym c.silent_from-edge-items.ensures) (All-filter (λ (e : SilentEdge). eqb e.from c.args.node) (λ e. e.to < c.args.model.now.nodes) c.args.model.now.silent (silent_below c.args.model.now c.requires.valid)) in
    omega (arith, below i nowhere c.loop-edge-test.true, c.loop-edge.invariant.adds.size, c.requires.size)

pub loop-edge-preserved : goal.loop-edge-preserved
loop-edge-preserved g c =
    let es = c.silent_from-edge-items.result.now in
    let i = c.loop-edge.edge-index in
    record {
      adds = adds_more (λ (e : SilentEdge) b. e.to ≡ b) es i (get_or es i nowhere) c.args.pool.now c.loop-edge.pool c.note.new.pool
          c.loop-edge-test.true (get_or_default es i nowhere (get_or es i nowhere) c.loop-edge-test.true) c.loop-edge.invariant.adds c.note.ensures;
      counted = omega (arith, c.tick.ensures, c.loop-edge.invariant.counted);
    }

pub returns-clause-ends : goal.returns-clause-ends
returns-clause-ends g c =
    let same = c.silent_from-edge-items.ensures in
    let over : length c.silent_from-edge-items.result.now ≤ c.loop-edge.edge-index = omega arith in
    adds_all (λ (e : SilentEdge) b. e.to ≡ b) c.silent_from-edge-items.result.now (HasSilent c.args.model.now c.args.node) c.loop-edge.edge-index c.args.pool.now c.loop-edge.pool over
    (λ b. subst (λ (es : List SilentEdge). IsOfOne es (λ e b. e.to ≡ b) b ↔ HasSilent c.args.model.now c.args.node b) (sym same) (silent_of_node c.args.model.now c.args.node b))
    c.loop-edge.invariant.adds

pub returns-clause-cost : goal.returns-clause-cost
returns-clause-cost g c =
    let same = ap length c.silent_from-edge-items.ensures in
    omega (arith, same, c.loop-edge.invariant.counted)
