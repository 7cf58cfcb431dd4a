use Rattle.std.proofs.Common.{◌≤◌, ◌⊎◌, [], length, get_or, false, arith}
use Rattle.std.proofs.lemmas.List.Elements.{Contains-get_or}
use Rattle.std.proofs.lemmas.List.{get_or_default}
use Rattle.flow_model.specs.declared.records.SilentEdge.{SilentEdge}
use Rattle.inline_model.specs.declared.copied.Copied.{Copied}
use Rattle.inline_model.specs.Drawn.{IsCopiedSilent, IsLink}
use Rattle.inline_model.proofs.EdgeLemmas.{from_nothing}
use Rattle.inline_model.proofs.Grown.{list_more, list_end}
use Rattle.inline_model.proofs.drawing.drawn.Goals as goal

abbrev nothing : Copied
nothing = record { function = 0; root = false; parent = 0; place = 0; first = 0 }

pub draw-requires-clause-has : goal.draw-requires-clause-has
draw-requires-clause-has c = Contains-get_or c.args.items.now c.loop-item.item-index nothing c.loop-item-test.true

pub loop-item-preserved : goal.loop-item-preserved
loop-item-preserved c =
    let item = get_or c.args.items.now c.loop-item.item-index nothing in
    list_more (λ (item : Copied) (e : SilentEdge). IsCopiedSilent c.args.model.now item e.from e.to ⊎ IsLink c.args.model.now c.args.items.now item e.from e.to) c.args.items.now [] c.loop-item.edges.items c.draw.new.edges.items c.loop-item.item-index item c.loop-item-test.true (get_or_default c.args.items.now c.loop-item.item-index nothing item c.loop-item-test.true) c.loop-item.invariant c.in_ok-draw.ensures

pub returns : goal.returns
returns c =
    let over : length c.args.items.now ≤ c.loop-item.item-index = omega (arith, c.loop-item-test.false) in
    from_nothing c.loop-item.edges.items (list_end (λ (item : Copied) (e : SilentEdge). IsCopiedSilent c.args.model.now item e.from e.to ⊎ IsLink c.args.model.now c.args.items.now item e.from e.to) c.args.items.now [] c.loop-item.edges.items c.loop-item.item-index over c.loop-item.invariant)
