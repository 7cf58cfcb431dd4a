use Rattle.std.proofs.Common.{◌≤◌, length, get_or, sym, ap, ◌∙◌, arith}
use Rattle.std.proofs.lemmas.List.{get_or_default}
use Rattle.std.proofs.lemmas.List.Elements.{Contains-get_or}
use Rattle.flow_model.specs.declared.records.SilentEdge.{SilentEdge}
use Rattle.inline_model.specs.Growing.{IsSilentIn}
use Rattle.inline_model.proofs.EdgeLemmas.{leaves_silent, silent_ends, silent_leaves}
use Rattle.inline_model.proofs.Grown.{list_more, list_end, adds_like, adds_push}
use Rattle.inline_model.proofs.drawing.copy_from.Goals as goal

abbrev nothing : SilentEdge
nothing = record { from = 0; to = 0 }

pub number_of-from-requires-clause-owns : goal.number_of-from-requires-clause-owns
number_of-from-requires-clause-owns c = (silent_ends c.args.model.now c.nodes-nodes.ensures.valid c.args.item.now.function c.args.node c.silent_from-edge-items.result.now c.silent_from-edge-items.ensures c.requires.owns (get_or c.silent_from-edge-items.result.now c.loop-edge.edge-index nothing) (Contains-get_or c.silent_from-edge-items.result.now c.loop-edge.edge-index nothing c.loop-edge-test.true)).0

pub number_of-to-requires-clause-owns : goal.number_of-to-requires-clause-owns
number_of-to-requires-clause-owns c = (silent_ends c.args.model.now c.nodes-nodes.ensures.valid c.args.item.now.function c.args.node c.silent_from-edge-items.result.now c.silent_from-edge-items.ensures c.requires.owns (get_or c.silent_from-edge-items.result.now c.loop-edge.edge-index nothing) (Contains-get_or c.silent_from-edge-items.result.now c.loop-edge.edge-index nothing c.loop-edge-test.true)).1

pub loop-edge-preserved : goal.loop-edge-preserved
loop-edge-preserved c =
    let g = c.args.model.now in
    let item = c.args.item.now in
    let edge = get_or c.silent_from-edge-items.result.now c.loop-edge.edge-index (record { from = 0; to = 0 }) in
    let pushed : SilentEdge = record { from = c.number_of-from.result; to = c.number_of-to.result } in
    list_more (IsSilentIn g item) c.silent_from-edge-items.result.now c.args.edges.now.items c.loop-edge.edges.items c.push.new.self.items c.loop-edge.edge-index edge c.loop-edge-test.true (get_or_default c.silent_from-edge-items.result.now c.loop-edge.edge-index (record { from = 0; to = 0 }) edge c.loop-edge-test.true) c.loop-edge.invariant
    (adds_like c.loop-edge.edges.items c.push.new.self.items
    (λ e same. record { from = ap (λ (d : SilentEdge). d.from) (sym same) ∙ c.number_of-from.ensures; to = ap (λ (d : SilentEdge). d.to) (sym same) ∙ c.number_of-to.ensures })
    (λ e is. λ i. record { from = (c.number_of-from.ensures ∙ sym is.from) i; to = (c.number_of-to.ensures ∙ sym is.to) i })
    (adds_push c.loop-edge.edges.items c.push.new.self.items pushed c.in_ok-push.ensures.items))

pub returns : goal.returns
returns c =
    let g = c.args.model.now in
    let item = c.args.item.now in
    let over : length c.silent_from-edge-items.result.now ≤ c.loop-edge.edge-index = omega (arith, c.loop-edge-test.false) in
    adds_like c.args.edges.now.items c.loop-edge.edges.items
    (leaves_silent g item c.args.node c.silent_from-edge-items.result.now c.silent_from-edge-items.ensures)
    (silent_leaves g item c.args.node c.silent_from-edge-items.result.now c.silent_from-edge-items.ensures)
    (list_end (IsSilentIn g item) c.silent_from-edge-items.result.now c.args.edges.now.items c.loop-edge.edges.items c.loop-edge.edge-index over c.loop-edge.invariant)
