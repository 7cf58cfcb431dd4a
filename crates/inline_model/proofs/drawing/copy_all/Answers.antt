use Rattle.std.proofs.Common.{◌≡◌, arith, subst}
use Rattle.inline_model.proofs.Basics.{has_function}
use Rattle.inline_model.specs.Growing.{Adds, HasNode, LeavesSilent}
use Rattle.inline_model.proofs.EdgeLemmas.{entry_first, owns_between, copied_silent, silent_copied}
use Rattle.inline_model.proofs.Grown.{range_more, adds_like}
use Rattle.inline_model.proofs.drawing.copy_all.Goals as goal

pub copy_from-requires-clause-owns : goal.copy_from-requires-clause-owns
copy_from-requires-clause-owns c = owns_between c.args.model.now c.args.item.now.function c.first_of-from.result c.past_of-to.result c.loop-node.node c.requires.known c.first_of-from.ensures c.past_of-to.ensures c.loop-node.auto.node c.loop-node-test.true

pub loop-node-preserved : goal.loop-node-preserved
loop-node-preserved c =
    range_more (LeavesSilent c.args.model.now c.args.item.now) c.first_of-from.result c.args.edges.now.items c.loop-node.edges.items c.copy_from.new.edges.items c.loop-node.node c.loop-node.auto.node c.loop-node.invariant c.in_ok-copy_from.ensures

pub returns : goal.returns
returns c =
    let g = c.args.model.now in
    let item = c.args.item.now in
    let known = has_function {g = g} item.function c.requires.known in
    let order = entry_first g c.nodes-nodes.ensures.valid item.function known.0 known.1 in
    let last : c.loop-node.node ≡ c.past_of-to.result = omega (arith, order, c.first_of-from.ensures, c.past_of-to.ensures, c.loop-node-test.false, c.loop-node.auto.node-end) in
    adds_like c.args.edges.now.items c.loop-node.edges.items
    (copied_silent g item known.0 known.1 c.first_of-from.result c.past_of-to.result c.first_of-from.ensures c.past_of-to.ensures)
    (silent_copied g item c.first_of-from.result c.past_of-to.result c.first_of-from.ensures c.past_of-to.ensures)
    (subst (λ n. Adds c.args.edges.now.items c.loop-node.edges.items (HasNode (LeavesSilent g item) c.first_of-from.result n)) last c.loop-node.invariant)
