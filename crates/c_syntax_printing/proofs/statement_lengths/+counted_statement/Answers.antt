use Rattle.std.proofs.Common.{arith, refl}
use Rattle.c_lexer.specs.declared.keyword.TheConstants.{IF, SWITCH, WHILE}
use Rattle.c_syntax.specs.Print.{expr_kinds, stmt_kinds, block_items_kinds, groups_kinds, labels_kinds, stmts_kinds}
use Rattle.c_syntax.specs.Tree.{no_block_items, no_groups}
use Rattle.c_syntax.specs.UnitView.{stmt_of, block_item_before, group_before, labels_of}
use Rattle.c_syntax.specs.WritesUnit.{block_items_of, groups_of, stmts_of, worded_kinds}
use Rattle.c_syntax.proofs.UnitRows.{block_item_first, group_first, group_is}
use Rattle.c_syntax_printing.proofs.Counting.{and_then, counted_as, of_same, one_counted, all_counted}
use Rattle.c_syntax_printing.proofs.PrintedOperands.{tree_counted, stmt_counted}
use Rattle.c_syntax_printing.proofs.Rows.{block_is, switch_is, if_is}
use Rattle.c_syntax_printing.proofs.statement_lengths.+counted_statement.Goals as goal

pub count_group-returns : goal.count_group-returns
count_group-returns t c =
    counted_as _ (group_is c.args.group.now)
    (and_then
    (of_same (λ xs. labels_kinds (labels_of xs)) _ _ c.deref.ensures.value c.count_labels-total.ensures)
    (of_same (λ xs. stmts_kinds (stmts_of xs)) _ _ c.deref-2.ensures.value c.count_stmts.ensures))

pub count_stmt-returns-in-Block : goal.count_stmt-returns-in-Block
count_stmt-returns-in-Block t c =
    rw c.in-Block.is
    (counted_as _ (block_is c.args.stmt.now.at c.in-Block.items _ c.deref.ensures.value)
    (and_then (and_then c.count_punctuator-total.ensures c.count_block_items-total.ensures) c.count_punctuator.ensures))

pub count_stmt-returns-in-Switch : goal.count_stmt-returns-in-Switch
count_stmt-returns-in-Switch t c =
    rw c.in-Switch.is
    (counted_as _ (switch_is c.args.stmt.now.at c.in-Switch.on c.in-Switch.groups _ c.deref-in-Switch-2.ensures.value)
    (and_then (and_then (and_then (tree_counted (worded_kinds SWITCH) _ c.in-Switch.on.value c.deref-in-Switch.ensures c.count_head-total-in-Switch.ensures) c.count_punctuator-total-in-Switch.ensures) c.count_groups-total.ensures) c.count_punctuator-in-Switch.ensures))

pub count_block_items-loop-item-preserved : goal.count_block_items-loop-item-preserved
count_block_items-loop-item-preserved t c =
    one_counted (λ xs. block_items_kinds (block_items_of xs)) (λ xs. block_items_kinds (block_items_of xs)) (λ x. block_items_kinds (block_item_before x no_block_items)) block_item_first
    c.args.items.now c.loop-item.item-index c.item-item.result c.loop-item-test.true c.item-item.is c.loop-item.invariant c.count_block_item-total.ensures

pub count_groups-loop-group-preserved : goal.count_groups-loop-group-preserved
count_groups-loop-group-preserved t c =
    one_counted (λ xs. groups_kinds (groups_of xs)) (λ xs. groups_kinds (groups_of xs)) (λ x. groups_kinds (group_before x no_groups)) group_first
    c.args.groups.now c.loop-group.group-index c.group-item.result c.loop-group-test.true c.group-item.is c.loop-group.invariant c.count_group-total.ensures

pub count_stmt-returns-in-Expr : goal.count_stmt-returns-in-Expr
count_stmt-returns-in-Expr t c =
    rw c.in-Expr.is (and_then (tree_counted expr_kinds _ c.in-Expr.e.value c.deref-in-Expr.ensures c.count_expr-total.ensures) c.count_punctuator-in-Expr.ensures)

pub count_stmt-returns-in-If : goal.count_stmt-returns-in-If
count_stmt-returns-in-If t c =
    rw c.in-If.is
    (counted_as _ (if_is c.args.stmt.now.at c.in-If.test c.in-If.yes c.in-If.no)
    (and_then (and_then (tree_counted (worded_kinds IF) _ c.in-If.test.value c.deref-in-If.ensures c.count_head-total.ensures) (stmt_counted _ c.in-If.yes.value c.deref-in-If-2.ensures c.count_stmt-total.ensures)) c.count_else.ensures))

pub count_stmt-returns-in-While : goal.count_stmt-returns-in-While
count_stmt-returns-in-While t c =
    rw c.in-While.is (and_then (tree_counted (worded_kinds WHILE) _ c.in-While.test.value c.deref-in-While.ensures c.count_head-total-in-While.ensures) (stmt_counted _ c.in-While.body.value c.deref-in-While-2.ensures c.count_stmt.ensures))

pub count_stmt-returns-in-Do : goal.count_stmt-returns-in-Do
count_stmt-returns-in-Do t c =
    rw c.in-Do.is
    (and_then
    (and_then (and_then c.count_keyword-total.ensures (stmt_counted _ c.in-Do.body.value c.deref-in-Do.ensures c.count_stmt-total-in-Do.ensures)) (tree_counted (worded_kinds WHILE) _ c.in-Do.test.value c.deref-in-Do-2.ensures c.count_head-total-in-Do.ensures))
    c.count_punctuator-in-Do.ensures)

pub count_stmt-returns-in-For : goal.count_stmt-returns-in-For
count_stmt-returns-in-For t c =
    rw c.in-For.is (and_then c.count_for_head-total.ensures (stmt_counted _ c.in-For.body.value c.deref-in-For.ensures c.count_stmt-in-For.ensures))

pub count_stmts-loop-stmt-preserved : goal.count_stmts-loop-stmt-preserved
count_stmts-loop-stmt-preserved t c =
    one_counted (λ xs. stmts_kinds (stmts_of xs)) (λ xs. stmts_kinds (stmts_of xs)) (λ x. stmt_kinds (stmt_of x)) (λ x xs k. refl)
    c.args.stmts.now c.loop-stmt.stmt-index c.stmt-item.result c.loop-stmt-test.true c.stmt-item.is c.loop-stmt.invariant c.count_stmt-total.ensures

pub count_block_items-returns : goal.count_block_items-returns
count_block_items-returns t c =
    all_counted (λ xs. block_items_kinds (block_items_of xs)) (λ k. refl) c.args.items.now c.loop-item.item-index (omega arith) c.loop-item.invariant

pub count_groups-returns : goal.count_groups-returns
count_groups-returns t c =
    all_counted (λ xs. groups_kinds (groups_of xs)) (λ k. refl) c.args.groups.now c.loop-group.group-index (omega arith) c.loop-group.invariant

pub count_stmts-returns : goal.count_stmts-returns
count_stmts-returns t c =
    all_counted (λ xs. stmts_kinds (stmts_of xs)) (λ k. refl) c.args.stmts.now c.loop-stmt.stmt-index (omega arith) c.loop-stmt.invariant
