use Rattle.std.proofs.Common.{◌≡◌, ◌+◌, [], ◌∷◌, ◌++◌, length, ap, sym, ◌∙◌, subst, arith}
use Rattle.callgraph_monitor.specs.Laid.{HaveBelow}
use Rattle.callgraph_monitor.specs.Space.{AreEnds}
use Rattle.callgraph_monitor.proofs.LaidLemmas.{have-none, have-more, are_quiet}
use Rattle.callgraph_monitor.proofs.Pushed.{are_ends}
use Rattle.callgraph_monitor.proofs.quiet.QuietEdges.new.Goals as goal

pub loop-node-init : goal.loop-node-init
loop-node-init c = have-none (AreEnds c.args.model.now) c.push.new.self.items c.new-ends.result.items (c.in_ok-push.ensures.items ∙ ap (λ xs. xs ++ 0 ∷ []) c.in_ok-starts.ensures.items) c.new-ends.ensures.items

pub loop-node-preserved : goal.loop-node-preserved
loop-node-preserved c =
    let g = c.args.model.now in
    let node = c.loop-node.node in
    let starts = c.loop-node.starts.items in
    let old = c.loop-node.ends.items in
    let new = c.push_quiet.new.ends.items in
    let added = c.in_ok-push_quiet.ensures.added in
    let end : c.len.result ≡ length new = omega (arith, c.len.ensures, c.push_quiet.new.ends.ok.0) in
    subst (λ xs. HaveBelow (AreEnds g) (node + 1) xs new) (sym c.in_ok-push-2.ensures.items)
    (have-more (AreEnds g) node starts old added.more new c.len.result c.loop-node.invariant added.grown end (are_ends g node old new added c.in_ok-push_quiet.ensures.few))

pub invariant_of-result : goal.invariant_of-result
invariant_of-result c = c.loop-node.invariant.laid

pub returns : goal.returns
returns c =
    are_quiet c.args.model.now c.loop-node.node c.loop-node.starts.items c.loop-node.ends.items (omega (arith, c.loop-node-test.false, c.loop-node.auto.node-end, c.nodes-node-end.ensures.nodes)) c.loop-node.invariant
