use Rattle.std.proofs.Common.{◌≡◌, ◌++◌, take}
use Rattle.std.specs.Prelude.{flat_map}
use Rattle.c_check_counts.specs.Named.{names_of_block_item, names_of_group}
use Rattle.c_check_scopes.specs.Variables.{names_of_stmt}
use Rattle.c_syntax.specs.UnitView.{stmt_of}
use Rattle.c_syntax.specs.SeenNames.{seen}
use Rattle.c_check_counts.proofs.names.+names_in.Given as goal

abbrev pub invariant-add_block-loop-item : goal.invariant-add_block-loop-item
invariant-add_block-loop-item l = seen l.into.items ≡ seen l.fn.into.items ++ flat_map names_of_block_item (take l.item-index l.items)

abbrev pub invariant-add_statements-loop-s : goal.invariant-add_statements-loop-s
invariant-add_statements-loop-s l = seen l.into.items ≡ seen l.fn.into.items ++ flat_map (λ s. names_of_stmt (stmt_of s)) (take l.s-index l.ss)

abbrev pub invariant-add_groups-loop-group : goal.invariant-add_groups-loop-group
invariant-add_groups-loop-group l = seen l.into.items ≡ seen l.fn.into.items ++ flat_map names_of_group (take l.group-index l.groups)
