use Rattle.std.proofs.Common.{◌≡◌, ◌-◌, ◌<◌, suc, length, arith}
use Rattle.inline_model.proofs.Basics.{has_function}
use Rattle.inline_model.proofs.DrawnLemmas.{at_contains, counted_all, item_numbered, some_item}
use Rattle.inline_model.proofs.EdgeLemmas.{entry_first}
use Rattle.inline_model.proofs.growing.count_nodes.Goals as goal

pub first_of-first-requires : goal.first_of-first-requires
first_of-first-requires c = (item_numbered c.args.model.now c.nodes-nodes.ensures.valid c.args.items.now c.requires c.item_at-last.result (at_contains c.args.items.now (length c.args.items.now - 1) c.item_at-last.result c.item_at-last.ensures)).known

pub overflow_sub-result : goal.overflow_sub-result
overflow_sub-result c =
    let g = c.args.model.now in
    let f = c.item_at-last.result.function in
    let known : f < length g.functions = (item_numbered c.args.model.now c.nodes-nodes.ensures.valid c.args.items.now c.requires c.item_at-last.result (at_contains c.args.items.now (length c.args.items.now - 1) c.item_at-last.result c.item_at-last.ensures)).known in
    let there = has_function {g = g} f known in
    omega (arith, entry_first g c.nodes-nodes.ensures.valid f there.0 there.1, c.first_of-first.ensures, c.past_of-past.ensures)

pub overflow_add-result : goal.overflow_add-result
overflow_add-result c =
    let few = (item_numbered c.args.model.now c.nodes-nodes.ensures.valid c.args.items.now c.requires c.item_at-last.result (at_contains c.args.items.now (length c.args.items.now - 1) c.item_at-last.result c.item_at-last.ensures)).few in
    omega (arith, few, c.first_of-first.ensures, c.past_of-past.ensures)

pub returns : goal.returns
returns c = λ all.
    let items = c.args.items.now in
    let k = length items - 1 in
    let g = c.args.model.now in
    let last = c.item_at-last.result in
    let some = some_item g items c.requires in
    let is_last : suc k ≡ length items = omega (arith, some) in
    counted_all g items last k _ c.item_at-last.ensures is_last
    (omega (arith, c.first_of-first.ensures, c.past_of-past.ensures)) all
