use Rattle.std.proofs.Common.{◌≡◌, ◌++◌, take}
use Rattle.std.specs.Prelude.{flat_map}
use Rattle.c_check_counts.specs.HeldTags.{tags_of_tree}
use Rattle.c_syntax.specs.SeenNames.{seen}
use Rattle.c_check_counts.proofs.unit_tags.add_tags_of_items.Given as goal

abbrev pub invariant-loop-item : goal.invariant-loop-item
invariant-loop-item l = seen l.into.items ≡ seen l.fn.into.items ++ flat_map (tags_of_tree l.aside) (take l.item-index l.items)
