use Rattle.std.proofs.Common.{◌≡◌, ◌∙◌, refl, ap}
use Rattle.std.proofs.lemmas.Result.{IfOk-weaker}
use Rattle.c_syntax.specs.declared.tree.Group.{out-Group}
use Rattle.c_syntax.specs.Tree.{block, evaluate, only_if, if_else, while_loop, do_loop, for_loop, switch_on, return_from, block_decl, block_stmt, more_stmts, more_groups}
use Rattle.c_syntax.specs.View.{expr_of}
use Rattle.c_syntax.specs.UnitView.{stmt_at, stmt_of, labels_of, block_item_before, group_before}
use Rattle.c_syntax.specs.WritesUnit.{block_items_of, stmts_of, groups_of}
use Rattle.c_syntax.proofs.NodeRows.{block_is, switch_is, group_is}
use Rattle.null_calls_expressions.proofs.Turns.{both, alike, node, leaf, first, starts, goes_on, ends}
use Rattle.null_calls.proofs.TreeLemmas.{is_if}
use Rattle.null_calls.proofs.statements.+statements.Goals as goal

pub block_items-loop-k-init : goal.block_items-loop-k-init
block_items-loop-k-init t c = starts c.new-made.ensures.items

pub block_items-loop-k-preserved : goal.block_items-loop-k-preserved
block_items-loop-k-preserved t c = goes_on c.in_ok-one.one c.loop-k.invariant c.loop-k-test.true c.index-list-k.is c.in_ok-push.ensures.items (λ r others q. c.in_ok-one.ensures.on r _ others q)

pub block_items-returns : goal.block_items-returns
block_items-returns t c = ends c.loop-k.invariant c.loop-k-test.false (λ _ _. refl) refl refl refl

pub statement_list-loop-k-init : goal.statement_list-loop-k-init
statement_list-loop-k-init t c = starts c.new-made.ensures.items

pub statement_list-loop-k-preserved : goal.statement_list-loop-k-preserved
statement_list-loop-k-preserved t c =
    goes_on c.in_ok-one.one c.loop-k.invariant c.loop-k-test.true c.index-list-k.is c.in_ok-push.ensures.items (λ r others q. node (both c.in_ok-one.ensures q) (λ z. more_stmts z.0 z.1) refl refl refl refl refl)

pub statement_list-returns : goal.statement_list-returns
statement_list-returns t c = ends c.loop-k.invariant c.loop-k-test.false (λ _ _. refl) refl refl refl

pub group_list-loop-k-init : goal.group_list-loop-k-init
group_list-loop-k-init t c = starts c.new-made.ensures.items

pub group_list-loop-k-preserved : goal.group_list-loop-k-preserved
group_list-loop-k-preserved t c = goes_on c.in_ok-one.one c.loop-k.invariant c.loop-k-test.true c.index-list-k.is c.in_ok-push.ensures.items (λ r others q. c.in_ok-one.ensures.on r _ others q)

pub group_list-returns : goal.group_list-returns
group_list-returns t c = ends c.loop-k.invariant c.loop-k-test.false (λ _ _. refl) refl refl refl

pub one_group-returns : goal.one_group-returns
one_group-returns t c =
    let body = stmts_of c.in_ok-body.body.items in
    let built : group_before c.group_node.result ≡ more_groups (labels_of c.in_ok-labels.labels.items) body = λ i rest. c.group_node.ensures rest i in
    first (alike (ap stmts_of c.deref-2.ensures.value) c.in_ok-body.ensures) (more_groups (labels_of (out-Group c.args.g.now).labels.items)) (λ i rest. group_is c.args.g.now rest i)
    (built ∙ ap (λ ls. more_groups ls body) (c.in_ok-labels.ensures ∙ ap labels_of c.deref.ensures.value)) (λ _. refl) (λ _. refl) (λ _. refl)

pub block_item-returns-in_ok-made-in-Declaration : goal.block_item-returns-in_ok-made-in-Declaration
block_item-returns-in_ok-made-in-Declaration t c = first c.in_ok-made-in-Declaration.ensures block_decl (ap block_item_before c.in-Declaration.is) refl (λ _. refl) (λ _. refl) (λ _. refl)

pub block_item-returns-in_ok-made-in-Statement : goal.block_item-returns-in_ok-made-in-Statement
block_item-returns-in_ok-made-in-Statement t c = first c.in_ok-made-in-Statement.ensures block_stmt (ap block_item_before c.in-Statement.is) refl (λ _. refl) (λ _. refl) (λ _. refl)

pub statement-returns-in_ok-made-in-Block : goal.statement-returns-in_ok-made-in-Block
statement-returns-in_ok-made-in-Block t c =
    let at = c.args.s.now.at in
    node (alike (ap block_items_of c.deref.ensures.value) c.in_ok-made-in-Block.ensures) (block at) (ap (stmt_at at) c.in-Block.is ∙ block_is at c.in-Block.list) c.block_node.ensures refl refl refl

pub statement-returns-in_ok-all-in-Switch : goal.statement-returns-in_ok-all-in-Switch
statement-returns-in_ok-all-in-Switch t c =
    let at = c.args.s.now.at in
    let on = alike (ap expr_of c.deref-in-Switch.ensures) c.in_ok-made-in-Switch.ensures in
    let all = alike (ap groups_of c.deref-in-Switch-2.ensures.value) c.in_ok-all-in-Switch.ensures in
    IfOk-weaker c.switch_node.result _ _ (λ made is. node (both on all) (λ z. switch_on at z.0 z.1) (ap (stmt_at at) c.in-Switch.is ∙ switch_is at c.in-Switch.on c.in-Switch.groups) is refl refl refl)
    c.switch_node.ensures

pub statement-returns-in-Empty : goal.statement-returns-in-Empty
statement-returns-in-Empty t c = leaf (ap (stmt_at c.args.s.now.at) c.in-Empty.is) refl refl refl refl

pub statement-returns-in-Break : goal.statement-returns-in-Break
statement-returns-in-Break t c = leaf (ap (stmt_at c.args.s.now.at) c.in-Break.is) refl refl refl refl

pub statement-returns-in-Continue : goal.statement-returns-in-Continue
statement-returns-in-Continue t c = leaf (ap (stmt_at c.args.s.now.at) c.in-Continue.is) refl refl refl refl

pub statement-returns-in_ok-made-in-Expr : goal.statement-returns-in_ok-made-in-Expr
statement-returns-in_ok-made-in-Expr t c =
    let at = c.args.s.now.at in
    let whole = alike (ap expr_of c.deref-in-Expr.ensures) c.in_ok-made-in-Expr.ensures in
    IfOk-weaker c.evaluation_node.result _ _ (λ made is. node whole (evaluate at) (ap (stmt_at at) c.in-Expr.is) is refl refl refl) c.evaluation_node.ensures

pub statement-returns-in_ok-made-in-Return : goal.statement-returns-in_ok-made-in-Return
statement-returns-in_ok-made-in-Return t c = node c.in_ok-made-in-Return.ensures (return_from c.args.s.now.at) (ap (stmt_at c.args.s.now.at) c.in-Return.is) refl refl refl refl

pub statement-returns-in_ok-other-in-Some : goal.statement-returns-in_ok-other-in-Some
statement-returns-in_ok-other-in-Some t c =
    let x = c.args.s.now in
    let test = alike (ap expr_of c.deref-in-If.ensures) c.in_ok-made-in-If.ensures in
    let yes = alike (ap stmt_of c.deref-in-If-2.ensures) c.in_ok-first-in-If.ensures in
    let no = alike (ap stmt_of c.deref-in-Some.ensures) c.in_ok-other-in-Some.ensures in
    IfOk-weaker c.if_else_node.result _ _ (λ made is. node (both test (both yes no)) (λ z. if_else x.at z.0 z.1.0 z.1.1) (is_if x c.in-If.test c.in-If.yes c.in-If.no _ c.in-If.is c.in-Some.is) is refl refl refl)
    c.if_else_node.ensures

pub statement-returns-in-None : goal.statement-returns-in-None
statement-returns-in-None t c =
    let x = c.args.s.now in
    let test = alike (ap expr_of c.deref-in-If.ensures) c.in_ok-made-in-If.ensures in
    let yes = alike (ap stmt_of c.deref-in-If-2.ensures) c.in_ok-first-in-If.ensures in
    IfOk-weaker c.if_node.result _ _ (λ made is. node (both test yes) (λ z. only_if x.at z.0 z.1) (is_if x c.in-If.test c.in-If.yes c.in-If.no _ c.in-If.is c.in-None.is) is refl refl refl) c.if_node.ensures

pub statement-returns-in_ok-turn-in-While : goal.statement-returns-in_ok-turn-in-While
statement-returns-in_ok-turn-in-While t c =
    let at = c.args.s.now.at in
    let test = alike (ap expr_of c.deref-in-While.ensures) c.in_ok-made-in-While.ensures in
    let body = alike (ap stmt_of c.deref-in-While-2.ensures) c.in_ok-turn-in-While.ensures in
    IfOk-weaker c.while_node.result _ _ (λ made is. node (both test body) (λ z. while_loop at z.0 z.1) (ap (stmt_at at) c.in-While.is) is refl refl refl) c.while_node.ensures

pub statement-returns-in_ok-made-in-Do : goal.statement-returns-in_ok-made-in-Do
statement-returns-in_ok-made-in-Do t c =
    let at = c.args.s.now.at in
    let body = alike (ap stmt_of c.deref-in-Do.ensures) c.in_ok-turn-in-Do.ensures in
    let test = alike (ap expr_of c.deref-in-Do-2.ensures) c.in_ok-made-in-Do.ensures in
    IfOk-weaker c.do_node.result _ _ (λ made is. node (both body test) (λ z. do_loop at z.0 z.1) (ap (stmt_at at) c.in-Do.is) is refl refl refl) c.do_node.ensures

pub statement-returns-in_ok-turn-in-For : goal.statement-returns-in_ok-turn-in-For
statement-returns-in_ok-turn-in-For t c =
    let at = c.args.s.now.at in
    let body = alike (ap stmt_of c.deref-in-For.ensures) c.in_ok-turn-in-For.ensures in
    let parts = both c.in_ok-begin-in-For.ensures (both c.in_ok-tested-in-For.ensures (both c.in_ok-stepped-in-For.ensures body)) in
    IfOk-weaker c.for_node.result _ _ (λ made is. node parts (λ z. for_loop at z.0 z.1.0 z.1.1.0 z.1.1.1) (ap (stmt_at at) c.in-For.is) is refl refl refl) c.for_node.ensures
