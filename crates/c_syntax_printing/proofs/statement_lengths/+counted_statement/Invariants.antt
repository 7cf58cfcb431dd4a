use Rattle.std.proofs.Common.{drop}
use Rattle.c_syntax.specs.Print.{block_items_kinds, stmts_kinds, groups_kinds}
use Rattle.c_syntax_printing.specs.Counted.{Leaves}
use Rattle.c_syntax.specs.WritesUnit.{block_items_of, stmts_of, groups_of}
use Rattle.c_syntax_printing.proofs.statement_lengths.+counted_statement.Given as goal

abbrev pub invariant-count_groups-loop-group : goal.invariant-count_groups-loop-group
invariant-count_groups-loop-group l =
    Leaves l.fn.total (groups_kinds (groups_of l.groups)) l.total (groups_kinds (groups_of (drop l.group-index l.groups)))

abbrev pub invariant-count_block_items-loop-item : goal.invariant-count_block_items-loop-item
invariant-count_block_items-loop-item l =
    Leaves l.fn.total (block_items_kinds (block_items_of l.items)) l.total (block_items_kinds (block_items_of (drop l.item-index l.items)))

abbrev pub invariant-count_stmts-loop-stmt : goal.invariant-count_stmts-loop-stmt
invariant-count_stmts-loop-stmt l =
    Leaves l.fn.total (stmts_kinds (stmts_of l.stmts)) l.total (stmts_kinds (stmts_of (drop l.stmt-index l.stmts)))
