use Rattle.std.proofs.Common.{[]}
use Rattle.dm_base.proofs.AddingLemmas.{adds_step, adds_end, are_all}
use Rattle.expected_events.specs.Marked.{IsCalledBy}
use Rattle.expected_events.proofs.called.gathered.Goals as goal

pub loop-edge-preserved : goal.loop-edge-preserved
loop-edge-preserved c =
    adds_step [] c.loop-edge.calls.items c.push_called.new.calls.items (λ e d. IsCalledBy c.args.at.now d e) c.args.edges.now c.loop-edge.edge-index c.edge-item.result c.loop-edge-test.true c.edge-item.is c.loop-edge.invariant c.in_ok-push_called.ensures

pub returns : goal.returns
returns c =
    are_all c.loop-edge.calls.items _ (adds_end [] c.loop-edge.calls.items (λ e d. IsCalledBy c.args.at.now d e) c.args.edges.now c.loop-edge.edge-index c.loop-edge-test.false c.loop-edge.invariant)
