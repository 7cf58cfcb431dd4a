use Rattle.std.proofs.Common.{drop}
use Rattle.c_syntax.specs.Print.{block_items_kinds, stmts_kinds, groups_kinds}
use Rattle.c_syntax.specs.Writes.{Leaves}
use Rattle.c_syntax.specs.WritesUnit.{block_items_of, stmts_of, groups_of}
use Rattle.c_syntax_printing.proofs.printing.statements.+printed_statement.Given as goal

abbrev pub invariant-write_groups-loop-group : goal.invariant-write_groups-loop-group
invariant-write_groups-loop-group l =
    Leaves l.fn.out.items (groups_kinds (groups_of l.groups)) l.out.items (groups_kinds (groups_of (drop l.group-index l.groups)))

abbrev pub invariant-write_block_items-loop-item : goal.invariant-write_block_items-loop-item
invariant-write_block_items-loop-item l =
    Leaves l.fn.out.items (block_items_kinds (block_items_of l.items)) l.out.items (block_items_kinds (block_items_of (drop l.item-index l.items)))

abbrev pub invariant-write_stmts-loop-stmt : goal.invariant-write_stmts-loop-stmt
invariant-write_stmts-loop-stmt l =
    Leaves l.fn.out.items (stmts_kinds (stmts_of l.stmts)) l.out.items (stmts_kinds (stmts_of (drop l.stmt-index l.stmts)))
