use Rattle.c_syntax.specs.UnitView.{items_of}
use Rattle.c_rules.specs.Tags.{tags_of_items}
use Rattle.c_syntax.specs.SeenNames.{seen}
use Rattle.c_check_counts.proofs.Lists.{more_flat, all_flat}
use Rattle.c_check_counts.specs.HeldTags.{tags_of_tree}
use Rattle.c_check_counts.proofs.TagLists.{items_flat}
use Rattle.c_check_counts.proofs.unit_tags.add_tags_of_items.Goals as goal

pub returns : goal.returns
returns c =
    all_flat (tags_of_tree c.args.aside) c.args.items.now c.loop-item.item-index (seen c.args.into.now.items) (seen c.loop-item.into.items) (tags_of_items c.args.aside (items_of c.args.items.now)) c.loop-item-test.false (items_flat c.args.aside c.args.items.now) c.loop-item.invariant

pub loop-item-preserved : goal.loop-item-preserved
loop-item-preserved c =
    more_flat (tags_of_tree c.args.aside) c.args.items.now c.loop-item.item-index c.item-item.result (seen c.args.into.now.items) (seen c.loop-item.into.items) (seen c.add_tags.new.into.items) c.loop-item-test.true c.item-item.is c.loop-item.invariant c.in_ok-add_tags.ensures
