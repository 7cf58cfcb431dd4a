use Rattle.std.proofs.Common.{◌∙◌, ap}
use Rattle.dm_sets.specs.Nodes.{Nodes}
use Rattle.expected_events.proofs.StandingLemmas.{labels_none, labels_more, labels_all}
use Rattle.expected_events.proofs.standing.labels.Goals as goal

pub loop-edge-init : goal.loop-edge-init
loop-edge-init c = record {
  size = ap (λ (s : Nodes). s.size) c.in_ok-at.ensures ∙ c.nodes.ensures.nodes;
  marked = labels_none c.args.model.now.nodes c.in_ok-at.at c.nodes.result c.in_ok-at.ensures;
}

pub loop-edge-preserved : goal.loop-edge-preserved
loop-edge-preserved c = record {
  size = c.mark.ensures.size ∙ c.loop-edge.invariant.size;
  marked = labels_more c.args.model.now.nodes c.loop-edge.at c.mark.new.at c.args.edges.now c.loop-edge.edge-index (record { label = 0; to = 0 }) c.loop-edge-test.true c.loop-edge.invariant.size c.loop-edge.invariant.marked c.mark.ensures.marked;
}

pub returns : goal.returns
returns c = labels_all c.args.model.now.nodes c.loop-edge.at c.args.edges.now c.loop-edge.edge-index c.loop-edge-test.false c.loop-edge.invariant.marked
