use Rattle.std.proofs.Common.{◌++◌, ◌∙◌, ap, ap₂, refl, sym}
use Rattle.std.proofs.lemmas.List.{append_assoc}
use Rattle.c_tree.specs.View.{expr_of, maybe_of, inits_of, stmt_of, stmts_of, groups_of}
use Rattle.c_tree.specs.declared.tree.TGroup.{TGroup}
use Rattle.c_meaning.specs.Mentions.{mentions, mentions_of_maybe, mentions_of_inits, mentions_of_stmt, mentions_of_stmts, mentions_of_groups}
use Rattle.flow_graph.specs.Saying.{said}
use Rattle.flow_graph.proofs.SayingLemmas.{of_empty, of_if_none, of_if_some, of_block, of_for, of_switch, stmts_flat, groups_flat, all_of_flat, on_same, then_on, two_parts}
use Rattle.flow_graph.proofs.saying.+statements.Goals as goal

pub add_groups-returns : goal.add_groups-returns
add_groups-returns t c = all_of_flat (λ (g : TGroup). mentions_of_stmts (stmts_of g.body.items)) c.args.groups.now c.loop-group.group-index (said c.args.into.now.items) (said c.loop-group.into.items) c.loop-group-test.false c.loop-group.invariant ∙ ap (λ ms. said c.args.into.now.items ++ ms) (sym (groups_flat c.args.groups.now))

pub add_statement-returns-in-Block : goal.add_statement-returns-in-Block
add_statement-returns-in-Block t c = on_same c.add_statements.result (said c.args.into.now.items) (said c.add_statements.new.into.items) (mentions_of_stmt (stmt_of c.args.s.now)) (mentions_of_stmts (stmts_of c.deref.result.now)) (of_block c.args.s.now c.in-Block.ss c.in-Block.is ∙ ap (λ ss. mentions_of_stmts (stmts_of ss)) (sym c.deref.ensures.value)) c.add_statements.ensures

pub add_statement-returns-in-Empty : goal.add_statement-returns-in-Empty
add_statement-returns-in-Empty t c = of_empty (said c.args.into.now.items) c.args.s.now _ c.in-Empty.is refl

pub add_statement-returns-in-Break : goal.add_statement-returns-in-Break
add_statement-returns-in-Break t c = of_empty (said c.args.into.now.items) c.args.s.now _ c.in-Break.is refl

pub add_statement-returns-in-Continue : goal.add_statement-returns-in-Continue
add_statement-returns-in-Continue t c = of_empty (said c.args.into.now.items) c.args.s.now _ c.in-Continue.is refl

pub add_statement-returns-in-Expr : goal.add_statement-returns-in-Expr
add_statement-returns-in-Expr t c = on_same c.add_expression.result (said c.args.into.now.items) (said c.add_expression.new.into.items) (mentions_of_stmt (stmt_of c.args.s.now)) (mentions (expr_of c.deref-in-Expr.result.now)) (ap (λ s. mentions_of_stmt (stmt_of s)) c.in-Expr.is ∙ ap (λ e. mentions (expr_of e)) (sym c.deref-in-Expr.ensures)) c.add_expression.ensures

pub add_statement-returns-in-Declare : goal.add_statement-returns-in-Declare
add_statement-returns-in-Declare t c = on_same c.add_inits.result (said c.args.into.now.items) (said c.add_inits.new.into.items) (mentions_of_stmt (stmt_of c.args.s.now)) (mentions_of_inits (inits_of c.deref-in-Declare.result.now)) (ap (λ s. mentions_of_stmt (stmt_of s)) c.in-Declare.is ∙ ap (λ is. mentions_of_inits (inits_of is)) (sym c.deref-in-Declare.ensures.value)) c.add_inits.ensures

pub add_statement-returns-in-None : goal.add_statement-returns-in-None
add_statement-returns-in-None t c = let i = c.in-If in
    let old = said c.args.into.now.items in
    let E = mentions (expr_of c.deref-in-If.result.now) in
    two_parts old (said c.add_expression-in-If.new.into.items) (said c.add_statement.new.into.items) E (mentions_of_stmt (stmt_of c.deref-in-If-2.result.now)) c.in_ok-add_expression-in-If.ensures c.in_ok-add_statement-in-If.ensures
    ∙ ap₂ (λ e s. old ++ (mentions (expr_of e) ++ mentions_of_stmt (stmt_of s))) c.deref-in-If.ensures c.deref-in-If-2.ensures
    ∙ ap (λ ms. old ++ ms) (sym (of_if_none c.args.s.now i.test i.yes i.no i.is c.in-None.is))

pub add_statement-returns-in-Some : goal.add_statement-returns-in-Some
add_statement-returns-in-Some t c = let i = c.in-If in
    let old = said c.args.into.now.items in
    let last = said c.add_statement.new.into.items in
    let E = mentions (expr_of c.deref-in-If.result.now) in
    let yes = mentions_of_stmt (stmt_of c.deref-in-If-2.result.now) in
    let no = mentions_of_stmt (stmt_of c.deref-in-Some.result.now) in
    then_on c.add_statement-in-Some.result old last (said c.add_statement-in-Some.new.into.items) (E ++ yes) no (mentions_of_stmt (stmt_of c.args.s.now))
    (two_parts old (said c.add_expression-in-If.new.into.items) last E yes c.in_ok-add_expression-in-If.ensures c.in_ok-add_statement-in-If.ensures)
    (of_if_some c.args.s.now i.test i.yes c.in-Some.no i.no i.is c.in-Some.is ∙ ap₂ (λ e s. mentions (expr_of e) ++ (mentions_of_stmt (stmt_of s) ++ mentions_of_stmt (stmt_of c.in-Some.no.value))) (sym c.deref-in-If.ensures) (sym c.deref-in-If-2.ensures) ∙ ap (λ u. E ++ (yes ++ mentions_of_stmt (stmt_of u))) (sym c.deref-in-Some.ensures) ∙ sym (append_assoc E yes no))
    c.add_statement-in-Some.ensures

pub add_statement-returns-in_ok-add_expression-in-While : goal.add_statement-returns-in_ok-add_expression-in-While
add_statement-returns-in_ok-add_expression-in-While t c =
    then_on c.add_statement-in-While.result (said c.args.into.now.items) (said c.add_expression-in-While.new.into.items) (said c.add_statement-in-While.new.into.items) (mentions (expr_of c.deref-in-While.result.now)) (mentions_of_stmt (stmt_of c.deref-in-While-2.result.now)) (mentions_of_stmt (stmt_of c.args.s.now)) c.in_ok-add_expression-in-While.ensures
    (ap (λ s. mentions_of_stmt (stmt_of s)) c.in-While.is ∙ ap₂ (λ e s. mentions (expr_of e) ++ mentions_of_stmt (stmt_of s)) (sym c.deref-in-While.ensures) (sym c.deref-in-While-2.ensures)) c.add_statement-in-While.ensures

pub add_statement-returns-in_ok-add_statement-in-Do : goal.add_statement-returns-in_ok-add_statement-in-Do
add_statement-returns-in_ok-add_statement-in-Do t c =
    then_on c.add_expression-in-Do.result (said c.args.into.now.items) (said c.add_statement-in-Do.new.into.items) (said c.add_expression-in-Do.new.into.items) (mentions_of_stmt (stmt_of c.deref-in-Do.result.now)) (mentions (expr_of c.deref-in-Do-2.result.now)) (mentions_of_stmt (stmt_of c.args.s.now)) c.in_ok-add_statement-in-Do.ensures
    (ap (λ s. mentions_of_stmt (stmt_of s)) c.in-Do.is ∙ ap₂ (λ s e. mentions_of_stmt (stmt_of s) ++ mentions (expr_of e)) (sym c.deref-in-Do.ensures) (sym c.deref-in-Do-2.ensures)) c.add_expression-in-Do.ensures

pub add_statement-returns-in_ok-add_maybe-in-For-2 : goal.add_statement-returns-in_ok-add_maybe-in-For-2
add_statement-returns-in_ok-add_maybe-in-For-2 t c = let i = c.in-For in
    let old = said c.args.into.now.items in
    let one = said c.add_statements-in-For.new.into.items in
    let two = said c.add_maybe.new.into.items in
    let three = said c.add_maybe-in-For.new.into.items in
    let first = mentions_of_stmts (stmts_of i.first.items) in
    let test = mentions_of_maybe (maybe_of i.test) in
    let step = mentions_of_maybe (maybe_of i.step) in
    let body = mentions_of_stmt (stmt_of c.deref-in-For-2.result.now) in
    let begin = c.in_ok-add_statements-in-For.ensures ∙ ap (λ ss. old ++ mentions_of_stmts (stmts_of ss)) c.deref-in-For.ensures.value in
    let all = two_parts old one three first (test ++ step) begin (two_parts one two three test step c.in_ok-add_maybe-in-For.ensures c.in_ok-add_maybe-in-For-2.ensures) in
    then_on c.add_statement-in-For.result old three (said c.add_statement-in-For.new.into.items) (first ++ (test ++ step)) body (mentions_of_stmt (stmt_of c.args.s.now)) all
    (of_for c.args.s.now i.first i.test i.step i.body i.is ∙ ap (λ s. first ++ (test ++ (step ++ mentions_of_stmt (stmt_of s)))) (sym c.deref-in-For-2.ensures) ∙ ap (λ ms. first ++ ms) (sym (append_assoc test step body)) ∙ sym (append_assoc first (test ++ step) body)) c.add_statement-in-For.ensures

pub add_statement-returns-in_ok-add_expression-in-Switch : goal.add_statement-returns-in_ok-add_expression-in-Switch
add_statement-returns-in_ok-add_expression-in-Switch t c = let i = c.in-Switch in
    then_on c.add_groups.result (said c.args.into.now.items) (said c.add_expression-in-Switch.new.into.items) (said c.add_groups.new.into.items) (mentions (expr_of c.deref-in-Switch.result.now)) (mentions_of_groups (groups_of c.deref-in-Switch-2.result.now)) (mentions_of_stmt (stmt_of c.args.s.now)) c.in_ok-add_expression-in-Switch.ensures
    (of_switch c.args.s.now i.on i.groups i.is ∙ ap₂ (λ e gs. mentions (expr_of e) ++ mentions_of_groups (groups_of gs)) (sym c.deref-in-Switch.ensures) (sym c.deref-in-Switch-2.ensures.value)) c.add_groups.ensures

pub add_statements-returns : goal.add_statements-returns
add_statements-returns t c = all_of_flat (λ s. mentions_of_stmt (stmt_of s)) c.args.ss.now c.loop-s.s-index (said c.args.into.now.items) (said c.loop-s.into.items) c.loop-s-test.false c.loop-s.invariant ∙ ap (λ ms. said c.args.into.now.items ++ ms) (sym (stmts_flat c.args.ss.now))
