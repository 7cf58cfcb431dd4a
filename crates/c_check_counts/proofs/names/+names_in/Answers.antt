use Rattle.std.proofs.Common.{◌++◌, ◌∙◌, ap, sym, append-nil}
use Rattle.c_syntax.specs.UnitView.{decl_of, first_of_head, stmt_of}
use Rattle.c_syntax.specs.WritesUnit.{block_items_of, stmts_of, groups_of}
use Rattle.c_check_scopes.specs.Variables.{names_of_decl, names_of_first, names_of_stmt, names_of_block, names_of_stmts, names_of_groups}
use Rattle.c_check_counts.specs.Named.{names_of_block_item, names_of_group}
use Rattle.c_syntax.specs.SeenNames.{seen}
use Rattle.c_check_counts.proofs.Lists.{names_of_block_flat, names_of_stmts_flat, names_of_groups_flat, more_flat, all_flat, on_same, then_on, none_on}
use Rattle.c_check_counts.proofs.Nodes.{names_in_none, names_in_kind, names_in_loop, names_in_block, names_in_if_none, names_in_if_some, names_in_switch, names_in_group}
use Rattle.c_check_counts.proofs.names.+names_in.Goals as goal

pub add_block-returns : goal.add_block-returns
add_block-returns t c =
    all_flat names_of_block_item c.args.items.now c.loop-item.item-index (seen c.args.into.now.items) (seen c.loop-item.into.items) (names_of_block (block_items_of c.args.items.now)) c.loop-item-test.false (names_of_block_flat c.args.items.now) c.loop-item.invariant

pub add_group-returns : goal.add_group-returns
add_group-returns t c =
    on_same c.add_statements.result (seen c.args.into.now.items) (seen c.add_statements.new.into.items) (names_of_group c.args.group.now) (names_of_stmts (stmts_of c.deref.result.now))
    (names_in_group c.args.group.now ∙ ap (λ ss. names_of_stmts (stmts_of ss)) (sym c.deref.ensures.value)) c.add_statements.ensures

pub add_groups-returns : goal.add_groups-returns
add_groups-returns t c =
    all_flat names_of_group c.args.groups.now c.loop-group.group-index (seen c.args.into.now.items) (seen c.loop-group.into.items) (names_of_groups (groups_of c.args.groups.now)) c.loop-group-test.false (names_of_groups_flat c.args.groups.now) c.loop-group.invariant

pub add_names-returns-in-Block : goal.add_names-returns-in-Block
add_names-returns-in-Block t c =
    on_same c.add_block.result (seen c.args.into.now.items) (seen c.add_block.new.into.items) (names_of_stmt (stmt_of c.args.s.now)) (names_of_block (block_items_of c.deref.result.now))
    (names_in_block c.args.s.now c.in-Block.items c.in-Block.is ∙ ap (λ is. names_of_block (block_items_of is)) (sym c.deref.ensures.value)) c.add_block.ensures

pub add_names-returns-in-Switch : goal.add_names-returns-in-Switch
add_names-returns-in-Switch t c =
    on_same c.add_groups.result (seen c.args.into.now.items) (seen c.add_groups.new.into.items) (names_of_stmt (stmt_of c.args.s.now)) (names_of_groups (groups_of c.deref-in-Switch.result.now))
    (names_in_switch c.args.s.now c.in-Switch.on c.in-Switch.groups c.in-Switch.is ∙ ap (λ gs. names_of_groups (groups_of gs)) (sym c.deref-in-Switch.ensures.value)) c.add_groups.ensures

pub add_statements-returns : goal.add_statements-returns
add_statements-returns t c =
    all_flat (λ s. names_of_stmt (stmt_of s)) c.args.ss.now c.loop-s.s-index (seen c.args.into.now.items) (seen c.loop-s.into.items) (names_of_stmts (stmts_of c.args.ss.now)) c.loop-s-test.false (names_of_stmts_flat c.args.ss.now) c.loop-s.invariant

pub add_names-returns-in-Empty : goal.add_names-returns-in-Empty
add_names-returns-in-Empty t c = none_on (seen c.args.into.now.items) (names_of_stmt (stmt_of c.args.s.now)) (names_in_none c.args.s.now c.in-Empty.is)

pub add_names-returns-in-Some : goal.add_names-returns-in-Some
add_names-returns-in-Some t c =
    then_on c.add_names-in-Some.result (seen c.args.into.now.items) (seen c.add_names.new.into.items) (seen c.add_names-in-Some.new.into.items) (names_of_stmt (stmt_of c.deref-in-If.result.now)) (names_of_stmt (stmt_of c.deref-in-Some.result.now)) (names_of_stmt (stmt_of c.args.s.now))
    c.in_ok-add_names-in-If.ensures
    (names_in_if_some c.args.s.now c.in-If.test c.in-If.yes c.in-Some.no c.in-If.no c.in-If.is c.in-Some.is ∙ (λ i. names_of_stmt (stmt_of (sym c.deref-in-If.ensures i)) ++ names_of_stmt (stmt_of (sym c.deref-in-Some.ensures i))))
    c.add_names-in-Some.ensures

pub add_names-returns-in-None : goal.add_names-returns-in-None
add_names-returns-in-None t c =
    c.in_ok-add_names-in-If.ensures
    ∙ ap (λ s. seen c.args.into.now.items ++ names_of_stmt (stmt_of s)) c.deref-in-If.ensures
    ∙ ap (λ xs. seen c.args.into.now.items ++ xs) (sym (names_in_if_none c.args.s.now c.in-If.test c.in-If.yes c.in-If.no c.in-If.is c.in-None.is))

pub add_names-returns-in-While : goal.add_names-returns-in-While
add_names-returns-in-While t c =
    on_same c.add_names-in-While.result (seen c.args.into.now.items) (seen c.add_names-in-While.new.into.items) (names_of_stmt (stmt_of c.args.s.now)) (names_of_stmt (stmt_of c.deref-in-While.result.now))
    (names_in_loop c.args.s.now c.in-While.body c.in-While.is ∙ ap (λ s. names_of_stmt (stmt_of s)) (sym c.deref-in-While.ensures)) c.add_names-in-While.ensures

pub add_names-returns-in_ok-add_first-in-For : goal.add_names-returns-in_ok-add_first-in-For
add_names-returns-in_ok-add_first-in-For t c =
    then_on c.add_names-in-For.result (seen c.args.into.now.items) (seen c.add_first.new.into.items) (seen c.add_names-in-For.new.into.items) (names_of_first (first_of_head c.in-For.first)) (names_of_stmt (stmt_of c.deref-in-For.result.now)) (names_of_stmt (stmt_of c.args.s.now))
    c.in_ok-add_first-in-For.ensures
    (names_in_kind c.args.s.now _ c.in-For.is ∙ ap (λ s. names_of_first (first_of_head c.in-For.first) ++ names_of_stmt (stmt_of s)) (sym c.deref-in-For.ensures))
    c.add_names-in-For.ensures

pub add_block-loop-item-preserved : goal.add_block-loop-item-preserved
add_block-loop-item-preserved t c =
    more_flat names_of_block_item c.args.items.now c.loop-item.item-index c.item-item.result (seen c.args.into.now.items) (seen c.loop-item.into.items) (seen c.add_block_item.new.into.items) c.loop-item-test.true c.item-item.is c.loop-item.invariant c.in_ok-add_block_item.ensures

pub add_statements-loop-s-preserved : goal.add_statements-loop-s-preserved
add_statements-loop-s-preserved t c =
    more_flat (λ s. names_of_stmt (stmt_of s)) c.args.ss.now c.loop-s.s-index c.s-item.result (seen c.args.into.now.items) (seen c.loop-s.into.items) (seen c.add_names.new.into.items) c.loop-s-test.true c.s-item.is c.loop-s.invariant c.in_ok-add_names.ensures

pub add_groups-loop-group-preserved : goal.add_groups-loop-group-preserved
add_groups-loop-group-preserved t c =
    more_flat names_of_group c.args.groups.now c.loop-group.group-index c.group-item.result (seen c.args.into.now.items) (seen c.loop-group.into.items) (seen c.add_group.new.into.items) c.loop-group-test.true c.group-item.is c.loop-group.invariant c.in_ok-add_group.ensures

pub add_block_item-returns-in-Declaration : goal.add_block_item-returns-in-Declaration
add_block_item-returns-in-Declaration t c =
    on_same c.add_decl.result (seen c.args.into.now.items) (seen c.add_decl.new.into.items) (names_of_block_item c.args.item.now) (names_of_decl (decl_of c.in-Declaration.decl))
    (ap names_of_block_item c.in-Declaration.is ∙ append-nil (names_of_decl (decl_of c.in-Declaration.decl))) c.add_decl.ensures

pub add_block_item-returns-in-Statement : goal.add_block_item-returns-in-Statement
add_block_item-returns-in-Statement t c =
    on_same c.add_names.result (seen c.args.into.now.items) (seen c.add_names.new.into.items) (names_of_block_item c.args.item.now) (names_of_stmt (stmt_of c.in-Statement.s))
    (ap names_of_block_item c.in-Statement.is ∙ append-nil (names_of_stmt (stmt_of c.in-Statement.s))) c.add_names.ensures
