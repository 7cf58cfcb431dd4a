-- For private contracts and proofs alone: the tags that single parts of lists of trees hold.
use Rattle.std.specs.Prelude.{List, ◌++◌, Bool}
use Rattle.c_syntax.specs.declared.tree.Param.{Param as ParamTree, Param'}
use Rattle.c_syntax.specs.declared.tree.DeclPart.{DeclPart}
use Rattle.c_syntax.specs.declared.tree.Item.{Item as ItemTree}
use Rattle.c_syntax.specs.declared.tree.Label.{Label}
use Rattle.c_syntax.specs.declared.tree.Member.{Member}
use Rattle.c_syntax.specs.declared.tree.Enumerator.{Enumerator}
use Rattle.c_syntax.specs.declared.tree.BlockItem.{BlockItem}
use Rattle.c_syntax.specs.declared.tree.Group.{Group}
use Rattle.c_syntax.specs.Tree.{no_labels, no_block_items, no_groups}
use Rattle.c_syntax.specs.View.{spec_of, held_declarator, declarator_of}
use Rattle.c_syntax.specs.UnitView.{item_at, label_before, block_item_before, group_before, maybe_of, maybe_init_of, declarators_of}
use Rattle.c_rules.specs.Names.{Name}
use Rattle.c_rules.specs.Tags as tags

abbrev pub tags_of_param : ParamTree → List Name
tags_of_param (Param' s held at) = tags.tags_of_spec (spec_of s) ++ tags.tags_of_declarator (held_declarator held)

abbrev pub tags_of_part : DeclPart → List Name
tags_of_part p = tags.tags_of_declarator (declarator_of p.declarator) ++ tags.tags_of_maybe_init (maybe_init_of p.init)

abbrev pub tags_of_label : Label → List Name
tags_of_label x = tags.tags_of_labels (label_before x.at x.kind no_labels)

abbrev pub tags_of_block_item : Bool → BlockItem → List Name
tags_of_block_item aside x = tags.tags_of_block aside (block_item_before x no_block_items)

abbrev pub tags_of_group : Bool → Group → List Name
tags_of_group aside g = tags.tags_of_groups aside (group_before g no_groups)

abbrev pub tags_of_member : Member → List Name
tags_of_member m = tags.tags_of_spec (spec_of m.spec) ++ tags.tags_of_declarators (declarators_of m.declarators.items)

abbrev pub tags_of_enumerator : Enumerator → List Name
tags_of_enumerator e = tags.tags_of_maybe (maybe_of e.value)

abbrev pub tags_of_tree : Bool → ItemTree → List Name
tags_of_tree aside i = tags.tags_of_item aside (item_at i.at i.kind)
