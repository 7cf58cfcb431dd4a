use Rattle.std.proofs.Common.{◌≡◌, ◌++◌, take}
use Rattle.std.specs.Prelude.{flat_map}
use Rattle.c_check_counts.specs.HeldTags.{tags_of_block_item, tags_of_group}
use Rattle.c_rules.specs.Tags.{tags_of_stmt}
use Rattle.c_syntax.specs.UnitView.{stmt_of}
use Rattle.c_syntax.specs.SeenNames.{seen}
use Rattle.c_check_counts.proofs.tags.+tags_in_statement.Given as goal

abbrev pub invariant-add_block-loop-item : goal.invariant-add_block-loop-item
invariant-add_block-loop-item l = seen l.into.items ≡ seen l.fn.into.items ++ flat_map (tags_of_block_item l.aside) (take l.item-index l.items)

abbrev pub invariant-add_statements-loop-s : goal.invariant-add_statements-loop-s
invariant-add_statements-loop-s l = seen l.into.items ≡ seen l.fn.into.items ++ flat_map (λ s. tags_of_stmt l.aside (stmt_of s)) (take l.s-index l.ss)

abbrev pub invariant-add_groups-loop-g : goal.invariant-add_groups-loop-g
invariant-add_groups-loop-g l = seen l.into.items ≡ seen l.fn.into.items ++ flat_map (tags_of_group l.aside) (take l.g-index l.gs)
