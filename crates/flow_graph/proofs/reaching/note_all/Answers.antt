use Rattle.std.proofs.Common.{◌∙◌, ◌<◌, ◌≤◌, length, get_or, ap, subst}
use Rattle.flow_graph.proofs.CallersLemmas.{followed_none, followed_more, followed_all}
use Rattle.flow_graph.proofs.reaching.note_all.Goals as goal

pub loop-node-init : goal.loop-node-init
loop-node-init c = followed_none c.args.callers.now c.args.found.now.keys

pub loop-node-preserved : goal.loop-node-preserved
loop-node-preserved c =
    followed_more c.args.callers.now c.args.found.now.keys c.loop-node.found.keys c.note_callers.new.found.keys c.loop-node.i c.in-Some.field-0.now
    (subst (λ ns. c.loop-node.i < length ns) c.as_slice.ensures c.in-Some.ensures.lookup.3.0)
    (c.in-Some.ensures.lookup.1 ∙ ap (λ ns. get_or ns c.loop-node.i c.in-Some.field-0.now) c.as_slice.ensures) c.loop-node.invariant c.in_ok-note_callers.ensures

pub returns : goal.returns
returns c =
    followed_all c.args.callers.now c.args.found.now.keys c.loop-node.found.keys c.loop-node.i
    (subst (λ ns. length ns ≤ c.loop-node.i) c.as_slice.ensures c.in_default.ensures.lookup.3) c.loop-node.invariant
