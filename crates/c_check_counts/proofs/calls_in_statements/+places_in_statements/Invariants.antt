use Rattle.std.proofs.Common.{◌≡◌, ◌++◌, take}
use Rattle.std.specs.Prelude.{flat_map}
use Rattle.c_syntax.specs.UnitView.{stmt_of}
use Rattle.c_rules.specs.PlacesOfCalls.{places_of_stmt}
use Rattle.c_check_counts.specs.SeenCalls.{places_of_block_item, places_of_group}
use Rattle.c_check_counts.proofs.calls_in_statements.+places_in_statements.Given as goal

abbrev pub invariant-add_block-loop-item : goal.invariant-add_block-loop-item
invariant-add_block-loop-item l = l.into.items ≡ l.fn.into.items ++ flat_map places_of_block_item (take l.item-index l.items)

abbrev pub invariant-add_statements-loop-s : goal.invariant-add_statements-loop-s
invariant-add_statements-loop-s l = l.into.items ≡ l.fn.into.items ++ flat_map (λ s. places_of_stmt (stmt_of s)) (take l.s-index l.ss)

abbrev pub invariant-add_groups-loop-group : goal.invariant-add_groups-loop-group
invariant-add_groups-loop-group l = l.into.items ≡ l.fn.into.items ++ flat_map places_of_group (take l.group-index l.groups)
