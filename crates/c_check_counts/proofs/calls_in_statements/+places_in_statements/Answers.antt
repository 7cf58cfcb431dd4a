use Rattle.std.proofs.Common.{◌++◌, ◌∙◌, ap, sym, append-nil}
use Rattle.c_syntax.specs.View.{expr_of, expr_behind}
use Rattle.c_syntax.specs.UnitView.{decl_of, first_of_head, stmt_of}
use Rattle.c_syntax.specs.WritesUnit.{block_items_of, stmts_of, groups_of}
use Rattle.c_rules.specs.PlacesOfCalls.{places, places_of_maybe, places_of_decl, places_of_first, places_of_stmt, places_of_block, places_of_stmts, places_of_groups}
use Rattle.c_check_counts.specs.SeenCalls.{places_of_block_item, places_of_group}
use Rattle.c_check_counts.proofs.CallLists.{block_flat, stmts_flat, groups_flat}
use Rattle.c_check_counts.proofs.Lists.{more_flat, all_flat, two_parts, on_same, then_on, none_on, two_then_on, three_then_on}
use Rattle.c_check_counts.proofs.CallNodes.{in_none, in_stmt, in_block, in_if_none, in_if_some, in_switch, in_group}
use Rattle.c_check_counts.proofs.calls_in_statements.+places_in_statements.Goals as goal

pub add_block-returns : goal.add_block-returns
add_block-returns t c =
    all_flat places_of_block_item c.args.items.now c.loop-item.item-index c.args.into.now.items c.loop-item.into.items (places_of_block (block_items_of c.args.items.now)) c.loop-item-test.false (block_flat c.args.items.now) c.loop-item.invariant

pub add_group-returns : goal.add_group-returns
add_group-returns t c =
    on_same c.add_statements.result c.args.into.now.items c.add_statements.new.into.items (places_of_group c.args.group.now) (places_of_stmts (stmts_of c.deref.result.now))
    (in_group c.args.group.now ∙ ap (λ ss. places_of_stmts (stmts_of ss)) (sym c.deref.ensures.value)) c.add_statements.ensures

pub add_groups-returns : goal.add_groups-returns
add_groups-returns t c =
    all_flat places_of_group c.args.groups.now c.loop-group.group-index c.args.into.now.items c.loop-group.into.items (places_of_groups (groups_of c.args.groups.now)) c.loop-group-test.false (groups_flat c.args.groups.now) c.loop-group.invariant

pub add_statement-returns-in-Block : goal.add_statement-returns-in-Block
add_statement-returns-in-Block t c =
    on_same c.add_block.result c.args.into.now.items c.add_block.new.into.items (places_of_stmt (stmt_of c.args.s.now)) (places_of_block (block_items_of c.deref.result.now))
    (in_block c.args.s.now c.in-Block.items c.in-Block.is ∙ ap (λ is. places_of_block (block_items_of is)) (sym c.deref.ensures.value)) c.add_block.ensures

pub add_statements-returns : goal.add_statements-returns
add_statements-returns t c =
    all_flat (λ s. places_of_stmt (stmt_of s)) c.args.ss.now c.loop-s.s-index c.args.into.now.items c.loop-s.into.items (places_of_stmts (stmts_of c.args.ss.now)) c.loop-s-test.false (stmts_flat c.args.ss.now) c.loop-s.invariant

pub add_statement-returns-in_ok-add_expression-in-Switch : goal.add_statement-returns-in_ok-add_expression-in-Switch
add_statement-returns-in_ok-add_expression-in-Switch t c =
    then_on c.add_groups.result c.args.into.now.items c.add_expression-in-Switch.new.into.items c.add_groups.new.into.items
    (places (expr_of c.deref-in-Switch.result.now)) (places_of_groups (groups_of c.deref-in-Switch-2.result.now)) (places_of_stmt (stmt_of c.args.s.now))
    c.in_ok-add_expression-in-Switch.ensures
    (in_switch c.args.s.now c.in-Switch.on c.in-Switch.groups c.in-Switch.is ∙ (λ i. places (expr_of (sym c.deref-in-Switch.ensures i)) ++ places_of_groups (groups_of (sym c.deref-in-Switch-2.ensures.value i))))
    c.add_groups.ensures

pub add_statement-returns-in-Empty : goal.add_statement-returns-in-Empty
add_statement-returns-in-Empty t c = none_on c.args.into.now.items (places_of_stmt (stmt_of c.args.s.now)) (in_none c.args.s.now c.in-Empty.is)

pub add_statement-returns-in-Expr : goal.add_statement-returns-in-Expr
add_statement-returns-in-Expr t c =
    on_same c.add_expression.result c.args.into.now.items c.add_expression.new.into.items (places_of_stmt (stmt_of c.args.s.now)) (places (expr_of c.deref-in-Expr.result.now))
    (in_stmt c.args.s.now _ c.in-Expr.is ∙ ap (λ e. places (expr_of e)) (sym c.deref-in-Expr.ensures)) c.add_expression.ensures

pub add_statement-returns-in-Some : goal.add_statement-returns-in-Some
add_statement-returns-in-Some t c =
    two_then_on c.add_statement-in-Some.result c.args.into.now.items c.add_expression-in-If.new.into.items c.add_statement.new.into.items c.add_statement-in-Some.new.into.items (places (expr_of c.deref-in-If.result.now)) (places_of_stmt (stmt_of c.deref-in-If-2.result.now)) (places_of_stmt (stmt_of c.deref-in-Some.result.now)) (places_of_stmt (stmt_of c.args.s.now))
    c.in_ok-add_expression-in-If.ensures c.in_ok-add_statement-in-If.ensures
    (in_if_some c.args.s.now c.in-If.test c.in-If.yes c.in-Some.no c.in-If.no c.in-If.is c.in-Some.is
    ∙ (λ i. places (expr_of (sym c.deref-in-If.ensures i)) ++ (places_of_stmt (stmt_of (sym c.deref-in-If-2.ensures i)) ++ places_of_stmt (stmt_of (sym c.deref-in-Some.ensures i)))))
    c.add_statement-in-Some.ensures

pub add_statement-returns-in-None : goal.add_statement-returns-in-None
add_statement-returns-in-None t c =
    two_parts c.args.into.now.items c.add_expression-in-If.new.into.items c.add_statement.new.into.items (places (expr_of c.deref-in-If.result.now)) (places_of_stmt (stmt_of c.deref-in-If-2.result.now)) c.in_ok-add_expression-in-If.ensures c.in_ok-add_statement-in-If.ensures
    ∙ (λ i. c.args.into.now.items ++ (places (expr_of (c.deref-in-If.ensures i)) ++ places_of_stmt (stmt_of (c.deref-in-If-2.ensures i))))
    ∙ ap (λ xs. c.args.into.now.items ++ xs) (sym (in_if_none c.args.s.now c.in-If.test c.in-If.yes c.in-If.no c.in-If.is c.in-None.is))

pub add_statement-returns-in_ok-add_expression-in-While : goal.add_statement-returns-in_ok-add_expression-in-While
add_statement-returns-in_ok-add_expression-in-While t c =
    then_on c.add_statement-in-While.result c.args.into.now.items c.add_expression-in-While.new.into.items c.add_statement-in-While.new.into.items (places (expr_of c.deref-in-While.result.now)) (places_of_stmt (stmt_of c.deref-in-While-2.result.now)) (places_of_stmt (stmt_of c.args.s.now))
    c.in_ok-add_expression-in-While.ensures
    (in_stmt c.args.s.now _ c.in-While.is ∙ (λ i. places (expr_of (sym c.deref-in-While.ensures i)) ++ places_of_stmt (stmt_of (sym c.deref-in-While-2.ensures i))))
    c.add_statement-in-While.ensures

pub add_statement-returns-in_ok-add_statement-in-Do : goal.add_statement-returns-in_ok-add_statement-in-Do
add_statement-returns-in_ok-add_statement-in-Do t c =
    then_on c.add_expression-in-Do.result c.args.into.now.items c.add_statement-in-Do.new.into.items c.add_expression-in-Do.new.into.items (places_of_stmt (stmt_of c.deref-in-Do.result.now)) (places (expr_of c.deref-in-Do-2.result.now)) (places_of_stmt (stmt_of c.args.s.now))
    c.in_ok-add_statement-in-Do.ensures
    (in_stmt c.args.s.now _ c.in-Do.is ∙ (λ i. places_of_stmt (stmt_of (sym c.deref-in-Do.ensures i)) ++ places (expr_of (sym c.deref-in-Do-2.ensures i))))
    c.add_expression-in-Do.ensures

pub add_statement-returns-in_ok-add_maybe-in-For-2 : goal.add_statement-returns-in_ok-add_maybe-in-For-2
add_statement-returns-in_ok-add_maybe-in-For-2 t c =
    three_then_on c.add_statement-in-For.result c.args.into.now.items c.add_first.new.into.items c.add_maybe.new.into.items c.add_maybe-in-For.new.into.items c.add_statement-in-For.new.into.items
    (places_of_first (first_of_head c.in-For.first)) (places_of_maybe (expr_behind c.in-For.test)) (places_of_maybe (expr_behind c.in-For.step)) (places_of_stmt (stmt_of c.deref-in-For.result.now)) (places_of_stmt (stmt_of c.args.s.now))
    c.in_ok-add_first-in-For.ensures c.in_ok-add_maybe-in-For.ensures c.in_ok-add_maybe-in-For-2.ensures
    (in_stmt c.args.s.now _ c.in-For.is
    ∙ ap (λ b. places_of_first (first_of_head c.in-For.first) ++ (places_of_maybe (expr_behind c.in-For.test) ++ (places_of_maybe (expr_behind c.in-For.step) ++ places_of_stmt (stmt_of b)))) (sym c.deref-in-For.ensures))
    c.add_statement-in-For.ensures

pub add_statement-returns-in-Return : goal.add_statement-returns-in-Return
add_statement-returns-in-Return t c =
    on_same c.add_maybe-in-Return.result c.args.into.now.items c.add_maybe-in-Return.new.into.items (places_of_stmt (stmt_of c.args.s.now)) (places_of_maybe (expr_behind c.in-Return.e)) (in_stmt c.args.s.now _ c.in-Return.is) c.add_maybe-in-Return.ensures

pub add_block-loop-item-preserved : goal.add_block-loop-item-preserved
add_block-loop-item-preserved t c =
    more_flat places_of_block_item c.args.items.now c.loop-item.item-index c.item-item.result c.args.into.now.items c.loop-item.into.items c.add_block_item.new.into.items c.loop-item-test.true c.item-item.is c.loop-item.invariant c.in_ok-add_block_item.ensures

pub add_statements-loop-s-preserved : goal.add_statements-loop-s-preserved
add_statements-loop-s-preserved t c =
    more_flat (λ s. places_of_stmt (stmt_of s)) c.args.ss.now c.loop-s.s-index c.s-item.result c.args.into.now.items c.loop-s.into.items c.add_statement.new.into.items c.loop-s-test.true c.s-item.is c.loop-s.invariant c.in_ok-add_statement.ensures

pub add_groups-loop-group-preserved : goal.add_groups-loop-group-preserved
add_groups-loop-group-preserved t c =
    more_flat places_of_group c.args.groups.now c.loop-group.group-index c.group-item.result c.args.into.now.items c.loop-group.into.items c.add_group.new.into.items c.loop-group-test.true c.group-item.is c.loop-group.invariant c.in_ok-add_group.ensures

pub add_block_item-returns-in-Declaration : goal.add_block_item-returns-in-Declaration
add_block_item-returns-in-Declaration t c =
    on_same c.add_declaration.result c.args.into.now.items c.add_declaration.new.into.items (places_of_block_item c.args.item.now) (places_of_decl (decl_of c.in-Declaration.decl))
    (ap places_of_block_item c.in-Declaration.is ∙ append-nil (places_of_decl (decl_of c.in-Declaration.decl))) c.add_declaration.ensures

pub add_block_item-returns-in-Statement : goal.add_block_item-returns-in-Statement
add_block_item-returns-in-Statement t c =
    on_same c.add_statement.result c.args.into.now.items c.add_statement.new.into.items (places_of_block_item c.args.item.now) (places_of_stmt (stmt_of c.in-Statement.s))
    (ap places_of_block_item c.in-Statement.is ∙ append-nil (places_of_stmt (stmt_of c.in-Statement.s))) c.add_statement.ensures
