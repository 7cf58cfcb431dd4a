use Rattle.std.proofs.Common.{arith, refl}
use Rattle.c_lexer.specs.declared.keyword.TheConstants.{IF, SWITCH, WHILE}
use Rattle.c_syntax.specs.Print.{expr_kinds, stmt_kinds, block_items_kinds, stmts_kinds, groups_kinds}
use Rattle.c_syntax.specs.Tree.{no_block_items, no_groups}
use Rattle.c_syntax.specs.UnitView.{stmt_of, block_item_before, group_before}
use Rattle.c_syntax.specs.WritesUnit.{block_items_of, stmts_of, groups_of, worded_kinds}
use Rattle.c_syntax.proofs.Writing.{and_then, and_last, on_ok_as, one_written, all_written}
use Rattle.c_syntax.proofs.UnitRows.{block_last, switch_last, group_last, block_item_first, group_first}
use Rattle.c_syntax_printing.proofs.PrintedOperands.{tree_written, stmt_written, stmt_last}
use Rattle.c_syntax_printing.proofs.Rows.{if_is}
use Rattle.c_syntax_printing.proofs.printing.statements.+printed_statement.Goals as goal

pub write_group-returns : goal.write_group-returns
write_group-returns t c =
    group_last _ _ c.write_stmts.new.out.items c.args.group.now _ _ c.deref.ensures.value c.deref-2.ensures.value
    (and_last _ _ _ c.in_ok-write_labels.ensures c.write_stmts.ensures)

pub write_stmt-returns-in_ok-write_block_items-in-Block : goal.write_stmt-returns-in_ok-write_block_items-in-Block
write_stmt-returns-in_ok-write_block_items-in-Block t c =
    rw c.in-Block.is
    (block_last _ _ c.push_punctuator-in-Block.new.out.items c.args.stmt.now.at c.in-Block.items _ c.deref.ensures.value
    (and_last _ _ _ (and_then c.in_ok-push_punctuator-in-Block.ensures c.in_ok-write_block_items-in-Block.ensures) c.push_punctuator-in-Block.ensures))

pub write_stmt-returns-in_ok-write_groups-in-Switch : goal.write_stmt-returns-in_ok-write_groups-in-Switch
write_stmt-returns-in_ok-write_groups-in-Switch t c =
    rw c.in-Switch.is
    (switch_last _ _ c.push_punctuator-in-Switch-2.new.out.items c.args.stmt.now.at c.in-Switch.on c.in-Switch.groups _ c.deref-in-Switch-2.ensures.value
    (and_last _ _ _ (and_then (and_then (tree_written (worded_kinds SWITCH) _ c.in-Switch.on.value c.deref-in-Switch.ensures c.in_ok-write_head-in-Switch.ensures) c.in_ok-push_punctuator-in-Switch.ensures) c.in_ok-write_groups-in-Switch.ensures) c.push_punctuator-in-Switch-2.ensures))

pub write_block_items-loop-item-preserved : goal.write_block_items-loop-item-preserved
write_block_items-loop-item-preserved t c =
    one_written (λ xs. block_items_kinds (block_items_of xs)) (λ xs. block_items_kinds (block_items_of xs)) (λ x. block_items_kinds (block_item_before x no_block_items)) block_item_first
    c.args.items.now c.loop-item.item-index c.item-item.result c.loop-item-test.true c.item-item.is c.loop-item.invariant c.in_ok-write_block_item.ensures

pub write_groups-loop-group-preserved : goal.write_groups-loop-group-preserved
write_groups-loop-group-preserved t c =
    one_written (λ xs. groups_kinds (groups_of xs)) (λ xs. groups_kinds (groups_of xs)) (λ x. groups_kinds (group_before x no_groups)) group_first
    c.args.groups.now c.loop-group.group-index c.group-item.result c.loop-group-test.true c.group-item.is c.loop-group.invariant c.in_ok-write_group.ensures

pub write_stmt-returns-in_ok-write_expr-in-Expr : goal.write_stmt-returns-in_ok-write_expr-in-Expr
write_stmt-returns-in_ok-write_expr-in-Expr t c =
    rw c.in-Expr.is (and_last _ _ _ (tree_written expr_kinds _ c.in-Expr.e.value c.deref-in-Expr.ensures c.in_ok-write_expr-in-Expr.ensures) c.push_punctuator-in-Expr.ensures)

pub write_stmt-returns-in_ok-write_stmt-in-If : goal.write_stmt-returns-in_ok-write_stmt-in-If
write_stmt-returns-in_ok-write_stmt-in-If t c =
    rw c.in-If.is
    (on_ok_as _ _ _ _ _ (if_is c.args.stmt.now.at c.in-If.test c.in-If.yes c.in-If.no)
    (and_last _ _ _ (and_then (tree_written (worded_kinds IF) _ c.in-If.test.value c.deref-in-If.ensures c.in_ok-write_head-in-If.ensures) (stmt_written _ c.in-If.yes.value c.deref-in-If-2.ensures c.in_ok-write_stmt-in-If.ensures)) c.write_else.ensures))

pub write_stmt-returns-in_ok-write_head-in-While : goal.write_stmt-returns-in_ok-write_head-in-While
write_stmt-returns-in_ok-write_head-in-While t c =
    rw c.in-While.is (and_last _ _ _ (tree_written (worded_kinds WHILE) _ c.in-While.test.value c.deref-in-While.ensures c.in_ok-write_head-in-While.ensures) (stmt_last _ _ _ _ c.in-While.body.value c.deref-in-While-2.ensures c.write_stmt-in-While.ensures))

pub write_stmt-returns-in_ok-write_head-in-Do : goal.write_stmt-returns-in_ok-write_head-in-Do
write_stmt-returns-in_ok-write_head-in-Do t c =
    rw c.in-Do.is
    (and_last _ _ _
    (and_then (and_then c.in_ok-push_keyword-in-Do.ensures (stmt_written _ c.in-Do.body.value c.deref-in-Do.ensures c.in_ok-write_stmt-in-Do.ensures)) (tree_written (worded_kinds WHILE) _ c.in-Do.test.value c.deref-in-Do-2.ensures c.in_ok-write_head-in-Do.ensures))
    c.push_punctuator-in-Do.ensures)

pub write_stmt-returns-in_ok-write_for_head-in-For : goal.write_stmt-returns-in_ok-write_for_head-in-For
write_stmt-returns-in_ok-write_for_head-in-For t c =
    rw c.in-For.is (and_last _ _ _ c.in_ok-write_for_head-in-For.ensures (stmt_last _ _ _ _ c.in-For.body.value c.deref-in-For.ensures c.write_stmt-in-For.ensures))

pub write_stmts-loop-stmt-preserved : goal.write_stmts-loop-stmt-preserved
write_stmts-loop-stmt-preserved t c =
    one_written (λ xs. stmts_kinds (stmts_of xs)) (λ xs. stmts_kinds (stmts_of xs)) (λ x. stmt_kinds (stmt_of x)) (λ x xs k. refl)
    c.args.stmts.now c.loop-stmt.stmt-index c.stmt-item.result c.loop-stmt-test.true c.stmt-item.is c.loop-stmt.invariant c.in_ok-write_stmt.ensures

pub write_block_items-returns : goal.write_block_items-returns
write_block_items-returns t c =
    all_written (λ xs. block_items_kinds (block_items_of xs)) (λ k. refl) c.args.items.now c.loop-item.item-index (omega arith) c.loop-item.invariant

pub write_groups-returns : goal.write_groups-returns
write_groups-returns t c =
    all_written (λ xs. groups_kinds (groups_of xs)) (λ k. refl) c.args.groups.now c.loop-group.group-index (omega arith) c.loop-group.invariant

pub write_stmts-returns : goal.write_stmts-returns
write_stmts-returns t c =
    all_written (λ xs. stmts_kinds (stmts_of xs)) (λ k. refl) c.args.stmts.now c.loop-stmt.stmt-index (omega arith) c.loop-stmt.invariant
