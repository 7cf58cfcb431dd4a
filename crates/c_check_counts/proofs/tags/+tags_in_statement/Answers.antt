use Rattle.std.proofs.Common.{◌++◌, ◌∙◌, ap, sym, append-nil}
use Rattle.c_syntax.specs.declared.tree.Group.{out-Group}
use Rattle.c_syntax.specs.View.{expr_of, expr_behind}
use Rattle.c_syntax.specs.UnitView.{decl_of, first_of_head, labels_of, stmt_of}
use Rattle.c_syntax.specs.WritesUnit.{block_items_of, stmts_of, groups_of}
use Rattle.c_rules.specs.Tags.{tags_of_expr, tags_of_maybe, tags_of_decl, tags_of_first, tags_of_labels, tags_of_stmt, tags_of_block, tags_of_stmts, tags_of_groups}
use Rattle.c_syntax.specs.SeenNames.{seen}
use Rattle.c_check_counts.proofs.Lists.{more_flat, all_flat, two_parts, on_same, then_on, none_on, two_then_on, three_then_on}
use Rattle.c_check_counts.specs.HeldTags.{tags_of_block_item, tags_of_group}
use Rattle.c_check_counts.proofs.TagLists.{block_flat, stmts_flat, groups_flat}
use Rattle.c_check_counts.proofs.TagNodes.{of_none, of_stmt, of_block, of_if_none, of_if_some, of_switch, of_group}
use Rattle.c_check_counts.proofs.tags.+tags_in_statement.Goals as goal

pub add_statement-returns-in-Block : goal.add_statement-returns-in-Block
add_statement-returns-in-Block t c =
    on_same c.add_block.result (seen c.args.into.now.items) (seen c.add_block.new.into.items) (tags_of_stmt c.args.aside (stmt_of c.args.s.now)) (tags_of_block c.args.aside (block_items_of c.deref.result.now))
    (of_block c.args.aside c.args.s.now c.in-Block.items c.in-Block.is ∙ ap (λ is. tags_of_block c.args.aside (block_items_of is)) (sym c.deref.ensures.value)) c.add_block.ensures

pub add_statement-returns-in_ok-add_expr-in-Switch : goal.add_statement-returns-in_ok-add_expr-in-Switch
add_statement-returns-in_ok-add_expr-in-Switch t c =
    then_on c.add_groups.result (seen c.args.into.now.items) (seen c.add_expr-in-Switch.new.into.items) (seen c.add_groups.new.into.items) (tags_of_expr (expr_of c.deref-in-Switch.result.now)) (tags_of_groups c.args.aside (groups_of c.deref-in-Switch-2.result.now)) (tags_of_stmt c.args.aside (stmt_of c.args.s.now))
    c.in_ok-add_expr-in-Switch.ensures
    (of_switch c.args.aside c.args.s.now c.in-Switch.on c.in-Switch.groups c.in-Switch.is ∙ (λ i. tags_of_expr (expr_of (sym c.deref-in-Switch.ensures i)) ++ tags_of_groups c.args.aside (groups_of (sym c.deref-in-Switch-2.ensures.value i))))
    c.add_groups.ensures

pub add_group-returns : goal.add_group-returns
add_group-returns t c =
    then_on c.add_statements.result (seen c.args.into.now.items) (seen c.add_labels.new.into.items) (seen c.add_statements.new.into.items) (tags_of_labels (labels_of (out-Group c.args.g.now).labels.items)) (tags_of_stmts c.args.aside (stmts_of c.deref-2.result.now)) (tags_of_group c.args.aside c.args.g.now)
    (c.in_ok-add_labels.ensures ∙ ap (λ ls. seen c.args.into.now.items ++ tags_of_labels (labels_of ls)) c.deref.ensures.value)
    (of_group c.args.aside c.args.g.now ∙ ap (λ ss. tags_of_labels (labels_of (out-Group c.args.g.now).labels.items) ++ tags_of_stmts c.args.aside (stmts_of ss)) (sym c.deref-2.ensures.value))
    c.add_statements.ensures

pub add_block-returns : goal.add_block-returns
add_block-returns t c =
    all_flat (tags_of_block_item c.args.aside) c.args.items.now c.loop-item.item-index (seen c.args.into.now.items) (seen c.loop-item.into.items) (tags_of_block c.args.aside (block_items_of c.args.items.now)) c.loop-item-test.false (block_flat c.args.aside c.args.items.now) c.loop-item.invariant

pub add_statements-returns : goal.add_statements-returns
add_statements-returns t c =
    all_flat (λ s. tags_of_stmt c.args.aside (stmt_of s)) c.args.ss.now c.loop-s.s-index (seen c.args.into.now.items) (seen c.loop-s.into.items) (tags_of_stmts c.args.aside (stmts_of c.args.ss.now)) c.loop-s-test.false (stmts_flat c.args.aside c.args.ss.now) c.loop-s.invariant

pub add_groups-returns : goal.add_groups-returns
add_groups-returns t c =
    all_flat (tags_of_group c.args.aside) c.args.gs.now c.loop-g.g-index (seen c.args.into.now.items) (seen c.loop-g.into.items) (tags_of_groups c.args.aside (groups_of c.args.gs.now)) c.loop-g-test.false (groups_flat c.args.aside c.args.gs.now) c.loop-g.invariant

pub add_statement-returns-in-Empty : goal.add_statement-returns-in-Empty
add_statement-returns-in-Empty t c = none_on (seen c.args.into.now.items) (tags_of_stmt c.args.aside (stmt_of c.args.s.now)) (of_none c.args.aside c.args.s.now c.in-Empty.is)

pub add_statement-returns-in-Expr : goal.add_statement-returns-in-Expr
add_statement-returns-in-Expr t c =
    on_same c.add_expr.result (seen c.args.into.now.items) (seen c.add_expr.new.into.items) (tags_of_stmt c.args.aside (stmt_of c.args.s.now)) (tags_of_expr (expr_of c.deref-in-Expr.result.now))
    (of_stmt c.args.aside c.args.s.now _ c.in-Expr.is ∙ ap (λ e. tags_of_expr (expr_of e)) (sym c.deref-in-Expr.ensures)) c.add_expr.ensures

pub add_statement-returns-in-Some : goal.add_statement-returns-in-Some
add_statement-returns-in-Some t c =
    two_then_on c.add_statement-in-Some.result (seen c.args.into.now.items) (seen c.add_expr-in-If.new.into.items) (seen c.add_statement.new.into.items) (seen c.add_statement-in-Some.new.into.items) (tags_of_expr (expr_of c.deref-in-If.result.now)) (tags_of_stmt c.args.aside (stmt_of c.deref-in-If-2.result.now)) (tags_of_stmt c.args.aside (stmt_of c.deref-in-Some.result.now)) (tags_of_stmt c.args.aside (stmt_of c.args.s.now))
    c.in_ok-add_expr-in-If.ensures c.in_ok-add_statement-in-If.ensures
    (of_if_some c.args.aside c.args.s.now c.in-If.test c.in-If.yes c.in-Some.no c.in-If.no c.in-If.is c.in-Some.is
    ∙ (λ i. tags_of_expr (expr_of (sym c.deref-in-If.ensures i)) ++ (tags_of_stmt c.args.aside (stmt_of (sym c.deref-in-If-2.ensures i)) ++ tags_of_stmt c.args.aside (stmt_of (sym c.deref-in-Some.ensures i)))))
    c.add_statement-in-Some.ensures

pub add_statement-returns-in-None : goal.add_statement-returns-in-None
add_statement-returns-in-None t c =
    two_parts (seen c.args.into.now.items) (seen c.add_expr-in-If.new.into.items) (seen c.add_statement.new.into.items) (tags_of_expr (expr_of c.deref-in-If.result.now)) (tags_of_stmt c.args.aside (stmt_of c.deref-in-If-2.result.now)) c.in_ok-add_expr-in-If.ensures c.in_ok-add_statement-in-If.ensures
    ∙ (λ i. seen c.args.into.now.items ++ (tags_of_expr (expr_of (c.deref-in-If.ensures i)) ++ tags_of_stmt c.args.aside (stmt_of (c.deref-in-If-2.ensures i))))
    ∙ ap (λ xs. seen c.args.into.now.items ++ xs) (sym (of_if_none c.args.aside c.args.s.now c.in-If.test c.in-If.yes c.in-If.no c.in-If.is c.in-None.is))

pub add_statement-returns-in_ok-add_expr-in-While : goal.add_statement-returns-in_ok-add_expr-in-While
add_statement-returns-in_ok-add_expr-in-While t c =
    then_on c.add_statement-in-While.result (seen c.args.into.now.items) (seen c.add_expr-in-While.new.into.items) (seen c.add_statement-in-While.new.into.items) (tags_of_expr (expr_of c.deref-in-While.result.now)) (tags_of_stmt c.args.aside (stmt_of c.deref-in-While-2.result.now)) (tags_of_stmt c.args.aside (stmt_of c.args.s.now))
    c.in_ok-add_expr-in-While.ensures
    (of_stmt c.args.aside c.args.s.now _ c.in-While.is ∙ (λ i. tags_of_expr (expr_of (sym c.deref-in-While.ensures i)) ++ tags_of_stmt c.args.aside (stmt_of (sym c.deref-in-While-2.ensures i))))
    c.add_statement-in-While.ensures

pub add_statement-returns-in_ok-add_statement-in-Do : goal.add_statement-returns-in_ok-add_statement-in-Do
add_statement-returns-in_ok-add_statement-in-Do t c =
    then_on c.add_expr-in-Do.result (seen c.args.into.now.items) (seen c.add_statement-in-Do.new.into.items) (seen c.add_expr-in-Do.new.into.items) (tags_of_stmt c.args.aside (stmt_of c.deref-in-Do.result.now)) (tags_of_expr (expr_of c.deref-in-Do-2.result.now)) (tags_of_stmt c.args.aside (stmt_of c.args.s.now))
    c.in_ok-add_statement-in-Do.ensures
    (of_stmt c.args.aside c.args.s.now _ c.in-Do.is ∙ (λ i. tags_of_stmt c.args.aside (stmt_of (sym c.deref-in-Do.ensures i)) ++ tags_of_expr (expr_of (sym c.deref-in-Do-2.ensures i))))
    c.add_expr-in-Do.ensures

pub add_statement-returns-in_ok-add_boxed-in-For-2 : goal.add_statement-returns-in_ok-add_boxed-in-For-2
add_statement-returns-in_ok-add_boxed-in-For-2 t c =
    three_then_on c.add_statement-in-For.result (seen c.args.into.now.items) (seen c.add_first.new.into.items) (seen c.add_boxed.new.into.items) (seen c.add_boxed-in-For.new.into.items) (seen c.add_statement-in-For.new.into.items)
    (tags_of_first c.args.aside (first_of_head c.in-For.first)) (tags_of_maybe (expr_behind c.in-For.test)) (tags_of_maybe (expr_behind c.in-For.step)) (tags_of_stmt c.args.aside (stmt_of c.deref-in-For.result.now)) (tags_of_stmt c.args.aside (stmt_of c.args.s.now))
    c.in_ok-add_first-in-For.ensures c.in_ok-add_boxed-in-For.ensures c.in_ok-add_boxed-in-For-2.ensures
    (of_stmt c.args.aside c.args.s.now _ c.in-For.is
    ∙ ap (λ b. tags_of_first c.args.aside (first_of_head c.in-For.first) ++ (tags_of_maybe (expr_behind c.in-For.test) ++ (tags_of_maybe (expr_behind c.in-For.step) ++ tags_of_stmt c.args.aside (stmt_of b)))) (sym c.deref-in-For.ensures))
    c.add_statement-in-For.ensures

pub add_statement-returns-in-Return : goal.add_statement-returns-in-Return
add_statement-returns-in-Return t c =
    on_same c.add_boxed-in-Return.result (seen c.args.into.now.items) (seen c.add_boxed-in-Return.new.into.items) (tags_of_stmt c.args.aside (stmt_of c.args.s.now)) (tags_of_maybe (expr_behind c.in-Return.e)) (of_stmt c.args.aside c.args.s.now _ c.in-Return.is) c.add_boxed-in-Return.ensures

pub add_block_item-returns-in-Declaration : goal.add_block_item-returns-in-Declaration
add_block_item-returns-in-Declaration t c =
    on_same c.add_decl.result (seen c.args.into.now.items) (seen c.add_decl.new.into.items) (tags_of_block_item c.args.aside c.args.item.now) (tags_of_decl c.args.aside (decl_of c.in-Declaration.decl))
    (ap (tags_of_block_item c.args.aside) c.in-Declaration.is ∙ append-nil (tags_of_decl c.args.aside (decl_of c.in-Declaration.decl))) c.add_decl.ensures

pub add_block_item-returns-in-Statement : goal.add_block_item-returns-in-Statement
add_block_item-returns-in-Statement t c =
    on_same c.add_statement.result (seen c.args.into.now.items) (seen c.add_statement.new.into.items) (tags_of_block_item c.args.aside c.args.item.now) (tags_of_stmt c.args.aside (stmt_of c.in-Statement.s))
    (ap (tags_of_block_item c.args.aside) c.in-Statement.is ∙ append-nil (tags_of_stmt c.args.aside (stmt_of c.in-Statement.s))) c.add_statement.ensures

pub add_block-loop-item-preserved : goal.add_block-loop-item-preserved
add_block-loop-item-preserved t c =
    more_flat (tags_of_block_item c.args.aside) c.args.items.now c.loop-item.item-index c.item-item.result (seen c.args.into.now.items) (seen c.loop-item.into.items) (seen c.add_block_item.new.into.items) c.loop-item-test.true c.item-item.is c.loop-item.invariant c.in_ok-add_block_item.ensures

pub add_statements-loop-s-preserved : goal.add_statements-loop-s-preserved
add_statements-loop-s-preserved t c =
    more_flat (λ s. tags_of_stmt c.args.aside (stmt_of s)) c.args.ss.now c.loop-s.s-index c.s-item.result (seen c.args.into.now.items) (seen c.loop-s.into.items) (seen c.add_statement.new.into.items) c.loop-s-test.true c.s-item.is c.loop-s.invariant c.in_ok-add_statement.ensures

pub add_groups-loop-g-preserved : goal.add_groups-loop-g-preserved
add_groups-loop-g-preserved t c =
    more_flat (tags_of_group c.args.aside) c.args.gs.now c.loop-g.g-index c.g-item.result (seen c.args.into.now.items) (seen c.loop-g.into.items) (seen c.add_group.new.into.items) c.loop-g-test.true c.g-item.is c.loop-g.invariant c.in_ok-add_group.ensures
