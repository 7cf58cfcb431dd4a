use Rattle.std.proofs.Common.{◌≡◌, length, get_or, ap, subst, arith}
use Rattle.std.proofs.lemmas.List.{length_push}
use Rattle.flow_model.specs.declared.records.SilentEdge.{SilentEdge}
use Rattle.flow_model.specs.Growth.{Pushes, HasOne}
use Rattle.flow_model.proofs.SilentEnds.{silent_end, end_of_silent}
use Rattle.callgraph_monitor.proofs.Pushed.{pushes-start, pushes-more, pushes-end, pushes-like, pushes-one}
use Rattle.callgraph_monitor.proofs.quiet.push_silent.Goals as goal

pub loop-edge-init : goal.loop-edge-init
loop-edge-init c = record {
  added = pushes-start (λ (e : SilentEdge) b. e.to ≡ b) c.silent_from-edge-items.result.now c.args.ends.now.items;
  few = omega arith;
}

pub loop-edge-preserved : goal.loop-edge-preserved
loop-edge-preserved c =
    let edge = get_or c.silent_from-edge-items.result.now c.loop-edge.edge-index (record { from = 0; to = 0 }) in
    let ends = c.loop-edge.ends.items in
    record {
      added = pushes-more (λ (e : SilentEdge) b. e.to ≡ b) c.silent_from-edge-items.result.now c.args.ends.now.items ends c.push.new.self.items c.loop-edge.edge-index (record { from = 0; to = 0 }) c.loop-edge-test.true c.loop-edge.invariant.added
          (pushes-one ends c.push.new.self.items edge.to c.in_ok-push.ensures.items);
      few = omega (arith, c.loop-edge.invariant.few, ap length c.in_ok-push.ensures.items, length_push ends edge.to);
    }

pub returns-clause-added : goal.returns-clause-added
returns-clause-added c =
    let old = c.args.ends.now.items in
    let new = c.loop-edge.ends.items in
    let all = pushes-end (λ (e : SilentEdge) b. e.to ≡ b) c.silent_from-edge-items.result.now old new c.loop-edge.edge-index (omega (arith, c.loop-edge-test.false)) c.loop-edge.invariant.added in
    pushes-like old new (subst (λ xs. Pushes old new (HasOne (λ (e : SilentEdge) b. e.to ≡ b) xs)) c.silent_from-edge-items.ensures all) (silent_end c.args.model.now c.args.node) (end_of_silent c.args.model.now c.args.node)

pub returns-clause-few : goal.returns-clause-few
returns-clause-few c = omega (arith, c.loop-edge.invariant.few, c.loop-edge-test.false, c.loop-edge.auto.edge-index-end, ap length c.silent_from-edge-items.ensures)
