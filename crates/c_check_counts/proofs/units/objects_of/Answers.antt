use Rattle.std.proofs.Common.{[], ◌∙◌, sym, ap}
use Rattle.std.specs.Prelude.{flat_map}
use Rattle.std.proofs.lemmas.List.{take_all}
use Rattle.c_syntax.specs.declared.tree.Item.{Item}
use Rattle.c_syntax.specs.UnitView.{item_at}
use Rattle.c_check_scopes.specs.Units.{objects_of_item}
use Rattle.c_syntax.specs.SeenNames.{seen}
use Rattle.c_check_counts.proofs.Lists.{more_flat, objects_flat}
use Rattle.c_check_counts.proofs.units.objects_of.Goals as goal

pub returns : goal.returns
returns c =
    c.loop-item.invariant
    ∙ (ap (λ is. flat_map (λ (i : Item). objects_of_item (item_at i.at i.kind)) is) (take_all c.loop-item.item-index c.args.items.now c.loop-item-test.false) ∙ sym (objects_flat c.args.items.now))

pub loop-item-preserved : goal.loop-item-preserved
loop-item-preserved c =
    more_flat (λ (i : Item). objects_of_item (item_at i.at i.kind)) c.args.items.now c.loop-item.item-index c.item-item.result [] (seen c.loop-item.names.items) (seen c.add_objects_of_item.new.into.items) c.loop-item-test.true c.item-item.is c.loop-item.invariant c.in_ok-add_objects_of_item.ensures
