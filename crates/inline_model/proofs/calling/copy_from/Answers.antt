use Rattle.std.proofs.Common.{◌≤◌, length, sym, ap, ◌∙◌, arith}
use Rattle.flow_model.specs.declared.records.SysEdge.{SysEdge}
use Rattle.inline_model.specs.Growing.{IsSysIn}
use Rattle.inline_model.proofs.EdgeLemmas.{leaves_sys, sys_ends, sys_leaves}
use Rattle.inline_model.proofs.Grown.{list_more, list_end, adds_like, adds_push}
use Rattle.inline_model.proofs.calling.copy_from.Goals as goal

pub number_of-from-requires-clause-owns : goal.number_of-from-requires-clause-owns
number_of-from-requires-clause-owns c = (sys_ends c.args.model.now c.nodes-nodes.ensures.valid c.args.item.now.function c.args.node c.sys_from-edge-items.result.now c.sys_from-edge-items.ensures c.requires.owns c.edge-item.result (c.loop-edge.edge-index, c.loop-edge-test.true, sym c.edge-item.is)).0

pub number_of-to-requires-clause-owns : goal.number_of-to-requires-clause-owns
number_of-to-requires-clause-owns c = (sys_ends c.args.model.now c.nodes-nodes.ensures.valid c.args.item.now.function c.args.node c.sys_from-edge-items.result.now c.sys_from-edge-items.ensures c.requires.owns c.edge-item.result (c.loop-edge.edge-index, c.loop-edge-test.true, sym c.edge-item.is)).1

pub loop-edge-preserved : goal.loop-edge-preserved
loop-edge-preserved c =
    let g = c.args.model.now in
    let item = c.args.item.now in
    let edge = c.edge-item.result in
    let pushed : SysEdge = record { from = c.number_of-from.result; name = edge.name; to = c.number_of-to.result; args = edge.args } in
    list_more (IsSysIn g item) c.sys_from-edge-items.result.now c.args.edges.now.items c.loop-edge.edges.items c.push.new.self.items c.loop-edge.edge-index edge c.loop-edge-test.true c.edge-item.is c.loop-edge.invariant
    (adds_like c.loop-edge.edges.items c.push.new.self.items
    (λ e same. record { from = ap (λ (d : SysEdge). d.from) (sym same) ∙ c.number_of-from.ensures; name = ap (λ (d : SysEdge). d.name) (sym same); to = ap (λ (d : SysEdge). d.to) (sym same) ∙ c.number_of-to.ensures; args = ap (λ (d : SysEdge). d.args) (sym same) })
    (λ e is. λ i. record { from = (c.number_of-from.ensures ∙ sym is.from) i; name = sym is.name i; to = (c.number_of-to.ensures ∙ sym is.to) i; args = sym is.args i })
    (adds_push c.loop-edge.edges.items c.push.new.self.items pushed c.in_ok-push.ensures.items))

pub returns : goal.returns
returns c =
    let g = c.args.model.now in
    let item = c.args.item.now in
    let over : length c.sys_from-edge-items.result.now ≤ c.loop-edge.edge-index = omega (arith, c.loop-edge-test.false) in
    adds_like c.args.edges.now.items c.loop-edge.edges.items
    (leaves_sys g item c.args.node c.sys_from-edge-items.result.now c.sys_from-edge-items.ensures)
    (sys_leaves g item c.args.node c.sys_from-edge-items.result.now c.sys_from-edge-items.ensures)
    (list_end (IsSysIn g item) c.sys_from-edge-items.result.now c.args.edges.now.items c.loop-edge.edges.items c.loop-edge.edge-index over c.loop-edge.invariant)
