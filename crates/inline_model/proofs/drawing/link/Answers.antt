use Rattle.std.proofs.Common.{◌∙◌, sym, ap, subst}
use Rattle.flow_model.specs.declared.records.SilentEdge.{SilentEdge}
use Rattle.flow_model.specs.Graph.{Owns}
use Rattle.inline_model.proofs.Basics.{owns_entry}
use Rattle.inline_model.specs.Drawn.{number_in}
use Rattle.inline_model.proofs.DrawnLemmas.{at_contains, item_numbered, item_places, link_ends}
use Rattle.inline_model.proofs.EdgeLemmas.{link_of, of_link}
use Rattle.inline_model.proofs.Grown.{adds_then, adds_like, adds_push}
use Rattle.inline_model.proofs.drawing.link.Goals as goal

pub item_at-before-requires : goal.item_at-before-requires
item_at-before-requires c = (item_places c.args.model.now c.nodes-nodes.ensures.valid c.args.items.now c.requires.all c.args.item.now c.requires.has c.if-item.false).0

pub call_of-call-requires : goal.call_of-call-requires
call_of-call-requires c = (item_places c.args.model.now c.nodes-nodes.ensures.valid c.args.items.now c.requires.all c.args.item.now c.requires.has c.if-item.false).1

pub function_of-one-requires : goal.function_of-one-requires
function_of-one-requires c = (item_numbered c.args.model.now c.nodes-nodes.ensures.valid c.args.items.now c.requires.all c.args.item.now c.requires.has).known

pub number_of-from-requires-clause-item : goal.number_of-from-requires-clause-item
number_of-from-requires-clause-item c =
    item_numbered c.args.model.now c.nodes-nodes.ensures.valid c.args.items.now c.requires.all c.item_at-before.result (at_contains c.args.items.now c.args.item.now.parent c.item_at-before.result c.item_at-before.ensures)

pub number_of-from-requires-clause-owns : goal.number_of-from-requires-clause-owns
number_of-from-requires-clause-owns c =
    let g = c.args.model.now in
    subst (Owns g.functions g.nodes c.item_at-before.result.function) (sym c.from.ensures) (link_ends c.args.model.now c.nodes-nodes.ensures.valid c.args.items.now c.requires.all c.args.item.now c.item_at-before.result c.call_of-call.result.now c.requires.has c.if-item.false c.item_at-before.ensures c.call_of-call.ensures).0

pub number_of-entry-requires-clause-item : goal.number_of-entry-requires-clause-item
number_of-entry-requires-clause-item c = item_numbered c.args.model.now c.nodes-nodes.ensures.valid c.args.items.now c.requires.all c.args.item.now c.requires.has

pub number_of-entry-requires-clause-owns : goal.number_of-entry-requires-clause-owns
number_of-entry-requires-clause-owns c = owns_entry c.args.model.now.functions c.args.model.now.nodes c.args.item.now.function c.function_of-one.result.now c.nodes-nodes.ensures.valid.entries c.function_of-one.ensures

pub number_of-exit-requires-clause-item : goal.number_of-exit-requires-clause-item
number_of-exit-requires-clause-item c = item_numbered c.args.model.now c.nodes-nodes.ensures.valid c.args.items.now c.requires.all c.args.item.now c.requires.has

pub number_of-exit-requires-clause-owns : goal.number_of-exit-requires-clause-owns
number_of-exit-requires-clause-owns c = c.nodes-nodes.ensures.valid.exits c.args.item.now.function c.function_of-one.result.now c.function_of-one.ensures

pub number_of-to-requires-clause-item : goal.number_of-to-requires-clause-item
number_of-to-requires-clause-item c =
    item_numbered c.args.model.now c.nodes-nodes.ensures.valid c.args.items.now c.requires.all c.item_at-before.result (at_contains c.args.items.now c.args.item.now.parent c.item_at-before.result c.item_at-before.ensures)

pub number_of-to-requires-clause-owns : goal.number_of-to-requires-clause-owns
number_of-to-requires-clause-owns c =
    let g = c.args.model.now in
    subst (Owns g.functions g.nodes c.item_at-before.result.function) (sym c.to.ensures) (link_ends c.args.model.now c.nodes-nodes.ensures.valid c.args.items.now c.requires.all c.args.item.now c.item_at-before.result c.call_of-call.result.now c.requires.has c.if-item.false c.item_at-before.ensures c.call_of-call.ensures).1

pub returns : goal.returns
returns c =
    let into : SilentEdge = record { from = c.number_of-from.result; to = c.number_of-entry.result } in
    let back : SilentEdge = record { from = c.number_of-exit.result; to = c.number_of-to.result } in
    let g = c.args.model.now in
    let items = c.args.items.now in
    let item = c.args.item.now in
    let before = c.item_at-before.result in
    let call = c.call_of-call.result.now in
    let one = c.function_of-one.result.now in
    let into_from = c.number_of-from.ensures ∙ ap (number_in g before) c.from.ensures in
    let back_to = c.number_of-to.ensures ∙ ap (number_in g before) c.to.ensures in
    adds_like c.args.edges.now.items c.push-2.new.self.items
    (link_of g items item before call one c.if-item.false c.item_at-before.ensures c.call_of-call.ensures c.function_of-one.ensures into back into_from c.number_of-entry.ensures c.number_of-exit.ensures back_to)
    (of_link g items item before call one c.if-item.false c.item_at-before.ensures c.call_of-call.ensures c.function_of-one.ensures into back into_from c.number_of-entry.ensures c.number_of-exit.ensures back_to)
    (adds_then c.args.edges.now.items c.push.new.self.items c.push-2.new.self.items
    (adds_push c.args.edges.now.items c.push.new.self.items into c.in_ok-push.ensures.items)
    (adds_push c.push.new.self.items c.push-2.new.self.items back c.in_ok-push-2.ensures.items))
