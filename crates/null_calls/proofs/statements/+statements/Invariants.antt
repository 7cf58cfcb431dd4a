use Rattle.c_syntax.specs.Tree.{more_stmts}
use Rattle.c_syntax.specs.UnitView.{stmt_of, block_item_before, group_before}
use Rattle.c_syntax.specs.WritesUnit.{block_items_of, stmts_of, groups_of}
use Rattle.null_calls_expressions.specs.Sited.{sited}
use Rattle.null_calls_expressions.specs.Marked.{reached, of_block, of_stmts, of_groups}
use Rattle.null_calls_expressions.proofs.Turns.{GoesOn}
use Rattle.null_calls.proofs.statements.+statements.Given as goal

abbrev pub invariant-block_items-loop-k : goal.invariant-block_items-loop-k
invariant-block_items-loop-k l = GoesOn (of_block (sited l.table)) block_item_before block_items_of l.list l.made.items l.k (reached l.fn.next l.fn.kept.items) (reached l.next l.kept.items)

abbrev pub invariant-statement_list-loop-k : goal.invariant-statement_list-loop-k
invariant-statement_list-loop-k l = GoesOn (of_stmts (sited l.table)) (λ x rest. more_stmts (stmt_of x) rest) stmts_of l.list l.made.items l.k (reached l.fn.next l.fn.kept.items) (reached l.next l.kept.items)

abbrev pub invariant-group_list-loop-k : goal.invariant-group_list-loop-k
invariant-group_list-loop-k l = GoesOn (of_groups (sited l.table)) group_before groups_of l.list l.made.items l.k (reached l.fn.next l.fn.kept.items) (reached l.next l.kept.items)
