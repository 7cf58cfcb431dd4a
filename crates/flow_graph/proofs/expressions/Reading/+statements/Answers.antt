use Rattle.std.proofs.Common.{◌∙◌, ap, ap₂, sym}
use Rattle.c_tree.specs.View.{expr_of, maybe_of, inits_of, stmt_of, stmts_of, groups_of}
use Rattle.c_meaning.specs.Shape.{Skip, Loop, Do, Cases}
use Rattle.c_meaning.specs.ShapeOf.{without_skips, in_turn, seq, seq_two, alt, has_default}
use Rattle.flow_graph.specs.View.{shape_of, parts_of}
use Rattle.flow_graph.specs.Sited.{expr_at, maybe_at, inits_at, stmt_at, stmts_at, groups_at}
use Rattle.flow_graph.proofs.TakenParts.{each, stmt_shape, group_shape, stmts_each, groups_each, part_more, parts_end, shape_more, shapes_end}
use Rattle.flow_graph.proofs.Trees.{of_block, of_if_none, of_if_some, of_for, of_switch, same_shape}
use Rattle.flow_graph.proofs.expressions.Reading.+statements.Goals as goal

pub statements-loop-s-preserved : goal.statements-loop-s-preserved
statements-loop-s-preserved t c =
    let f = stmt_shape c.args.self.now.defined c.args.self.now.marks.now in
    part_more f c.args.ss.now c.loop-s.s-index c.s-item.result c.loop-s.parts.items c.add.new.into.items c.in_ok-part.part (without_skips (each f c.args.ss.now)) c.loop-s-test.true c.s-item.is c.loop-s.invariant c.in_ok-part.ensures c.in_ok-add.ensures

pub statements-returns : goal.statements-returns
statements-returns t c =
    let f = stmt_shape c.args.self.now.defined c.args.self.now.marks.now in
    same_shape c.in_turn.result (in_turn (parts_of c.loop-s.parts.items)) (seq (stmts_at c.args.self.now.defined c.args.self.now.marks.now (stmts_of c.args.ss.now)))
    (ap in_turn (parts_end f c.args.ss.now c.loop-s.s-index (parts_of c.loop-s.parts.items) (without_skips (each f c.args.ss.now)) c.loop-s-test.false c.loop-s.invariant) ∙ ap seq (stmts_each c.args.self.now.defined c.args.self.now.marks.now c.args.ss.now))
    c.in_turn.ensures

pub groups-loop-group-preserved : goal.groups-loop-group-preserved
groups-loop-group-preserved t c =
    let f = group_shape c.args.self.now.defined c.args.self.now.marks.now in
    shape_more f c.args.groups.now c.loop-group.group-index c.group-item.result c.loop-group.shapes.items c.push.new.into.items c.in_ok-shape.shape (each f c.args.groups.now) c.loop-group-test.true c.group-item.is c.loop-group.invariant
    (c.in_ok-shape.ensures ∙ ap (λ ss. seq (stmts_at c.args.self.now.defined c.args.self.now.marks.now (stmts_of ss))) c.deref.ensures.value) c.in_ok-push.ensures

pub groups-returns : goal.groups-returns
groups-returns t c =
    let f = group_shape c.args.self.now.defined c.args.self.now.marks.now in
    shapes_end f c.args.groups.now c.loop-group.group-index (parts_of c.loop-group.shapes.items) (each f c.args.groups.now) c.loop-group-test.false c.loop-group.invariant ∙ groups_each c.args.self.now.defined c.args.self.now.marks.now c.args.groups.now

pub statement-returns-in-Block : goal.statement-returns-in-Block
statement-returns-in-Block t c =
    let n = c.args.self.now.defined in
    let ms = c.args.self.now.marks.now in
    same_shape c.statements.result (seq (stmts_at n ms (stmts_of c.deref.result.now))) (stmt_at n ms (stmt_of c.args.s.now))
    (ap (λ ss. seq (stmts_at n ms (stmts_of ss))) c.deref.ensures.value ∙ of_block n ms c.args.s.now c.in-Block.ss c.in-Block.is) c.statements.ensures

pub statement-returns-in-Empty : goal.statement-returns-in-Empty
statement-returns-in-Empty t c = sym (ap (λ s. stmt_at c.args.self.now.defined c.args.self.now.marks.now (stmt_of s)) c.in-Empty.is)

pub statement-returns-in-Break : goal.statement-returns-in-Break
statement-returns-in-Break t c = sym (ap (λ s. stmt_at c.args.self.now.defined c.args.self.now.marks.now (stmt_of s)) c.in-Break.is)

pub statement-returns-in-Continue : goal.statement-returns-in-Continue
statement-returns-in-Continue t c = sym (ap (λ s. stmt_at c.args.self.now.defined c.args.self.now.marks.now (stmt_of s)) c.in-Continue.is)

pub statement-returns-in-Expr : goal.statement-returns-in-Expr
statement-returns-in-Expr t c =
    let n = c.args.self.now.defined in
    let ms = c.args.self.now.marks.now in
    same_shape c.expression.result (expr_at n ms (expr_of c.deref-in-Expr.result.now)) (stmt_at n ms (stmt_of c.args.s.now)) (ap (λ e. expr_at n ms (expr_of e)) c.deref-in-Expr.ensures ∙ sym (ap (λ s. stmt_at n ms (stmt_of s)) c.in-Expr.is)) c.expression.ensures

pub statement-returns-in-Declare : goal.statement-returns-in-Declare
statement-returns-in-Declare t c =
    let n = c.args.self.now.defined in
    let ms = c.args.self.now.marks.now in
    same_shape c.initialisers.result (seq (inits_at n ms (inits_of c.deref-in-Declare.result.now))) (stmt_at n ms (stmt_of c.args.s.now))
    (ap (λ is. seq (inits_at n ms (inits_of is))) c.deref-in-Declare.ensures.value ∙ sym (ap (λ s. stmt_at n ms (stmt_of s)) c.in-Declare.is)) c.initialisers.ensures

pub statement-returns-in_ok-other-in-Some : goal.statement-returns-in_ok-other-in-Some
statement-returns-in_ok-other-in-Some t c =
    let n = c.args.self.now.defined in
    let ms = c.args.self.now.marks.now in
    let i = c.in-If in
    let first = c.in_ok-one-in-If.ensures ∙ ap (λ s. stmt_at n ms (stmt_of s)) c.deref-in-If.ensures in
    let second = c.in_ok-other-in-Some.ensures ∙ ap (λ s. stmt_at n ms (stmt_of s)) c.deref-in-Some.ensures in
    same_shape c.choice.result (seq_two (expr_at n ms (expr_of c.deref-in-Some-2.result.now)) (alt (shape_of c.in_ok-one-in-If.one) (shape_of c.in_ok-other-in-Some.other))) (stmt_at n ms (stmt_of c.args.s.now))
    (ap₂ (λ S T. seq_two (expr_at n ms (expr_of c.deref-in-Some-2.result.now)) (alt S T)) first second
    ∙ ap (λ e. seq_two (expr_at n ms (expr_of e)) (alt (stmt_at n ms (stmt_of i.yes.value)) (stmt_at n ms (stmt_of c.in-Some.no.value)))) c.deref-in-Some-2.ensures
    ∙ of_if_some n ms c.args.s.now i.test i.yes c.in-Some.no i.no i.is c.in-Some.is) c.choice.ensures

pub statement-returns-in-None : goal.statement-returns-in-None
statement-returns-in-None t c =
    let n = c.args.self.now.defined in
    let ms = c.args.self.now.marks.now in
    let i = c.in-If in
    let first = c.in_ok-one-in-If.ensures ∙ ap (λ s. stmt_at n ms (stmt_of s)) c.deref-in-If.ensures in
    same_shape c.choice-in-None.result (seq_two (expr_at n ms (expr_of c.deref-in-None.result.now)) (alt (shape_of c.in_ok-one-in-If.one) Skip)) (stmt_at n ms (stmt_of c.args.s.now))
    (ap₂ (λ e S. seq_two (expr_at n ms (expr_of e)) (alt S Skip)) c.deref-in-None.ensures first ∙ of_if_none n ms c.args.s.now i.test i.yes i.no i.is c.in-None.is) c.choice-in-None.ensures

pub statement-returns-in_ok-body-in-While : goal.statement-returns-in_ok-body-in-While
statement-returns-in_ok-body-in-While t c =
    let n = c.args.self.now.defined in
    let ms = c.args.self.now.marks.now in
    let test = c.in_ok-test-in-While.ensures ∙ ap (λ e. expr_at n ms (expr_of e)) c.deref-in-While.ensures in
    let body = c.in_ok-body-in-While.ensures ∙ ap (λ s. stmt_at n ms (stmt_of s)) c.deref-in-While-2.ensures in
    same_shape c.loop_of.result (Loop (shape_of c.in_ok-test-in-While.test) (shape_of c.in_ok-body-in-While.body) Skip) (stmt_at n ms (stmt_of c.args.s.now))
    (ap₂ (λ S T. Loop S T Skip) test body ∙ sym (ap (λ s. stmt_at n ms (stmt_of s)) c.in-While.is)) c.loop_of.ensures

pub statement-returns-in_ok-test-in-Do : goal.statement-returns-in_ok-test-in-Do
statement-returns-in_ok-test-in-Do t c =
    let n = c.args.self.now.defined in
    let ms = c.args.self.now.marks.now in
    let body = c.in_ok-body-in-Do.ensures ∙ ap (λ s. stmt_at n ms (stmt_of s)) c.deref-in-Do.ensures in
    let test = c.in_ok-test-in-Do.ensures ∙ ap (λ e. expr_at n ms (expr_of e)) c.deref-in-Do-2.ensures in
    same_shape c.do_of.result (Do (shape_of c.in_ok-body-in-Do.body) (shape_of c.in_ok-test-in-Do.test)) (stmt_at n ms (stmt_of c.args.s.now))
    (ap₂ Do body test ∙ sym (ap (λ s. stmt_at n ms (stmt_of s)) c.in-Do.is)) c.do_of.ensures

pub statement-returns-in_ok-body-in-For : goal.statement-returns-in_ok-body-in-For
statement-returns-in_ok-body-in-For t c =
    let n = c.args.self.now.defined in
    let ms = c.args.self.now.marks.now in
    let i = c.in-For in
    let first = c.in_ok-first-in-For.ensures ∙ ap (λ ss. seq (stmts_at n ms (stmts_of ss))) c.deref-in-For.ensures.value in
    let body = c.in_ok-body-in-For.ensures ∙ ap (λ s. stmt_at n ms (stmt_of s)) c.deref-in-For-2.ensures in
    same_shape c.rounds.result (seq_two (shape_of c.in_ok-first-in-For.first) (Loop (maybe_at n ms (maybe_of i.test)) (shape_of c.in_ok-body-in-For.body) (maybe_at n ms (maybe_of i.step)))) (stmt_at n ms (stmt_of c.args.s.now))
    (ap₂ (λ S B. seq_two S (Loop (maybe_at n ms (maybe_of i.test)) B (maybe_at n ms (maybe_of i.step)))) first body ∙ of_for n ms c.args.s.now i.first i.test i.step i.body i.is)
    c.rounds.ensures

pub statement-returns-in_ok-cases-in-Switch : goal.statement-returns-in_ok-cases-in-Switch
statement-returns-in_ok-cases-in-Switch t c =
    let n = c.args.self.now.defined in
    let ms = c.args.self.now.marks.now in
    let i = c.in-Switch in
    let on = c.in_ok-on-in-Switch.ensures ∙ ap (λ e. expr_at n ms (expr_of e)) c.deref-in-Switch.ensures in
    let cases = c.in_ok-cases-in-Switch.ensures ∙ ap (λ gs. groups_at n ms (groups_of gs)) c.deref-in-Switch-2.ensures.value in
    same_shape c.switch_of.result (seq_two (shape_of c.in_ok-on-in-Switch.on) (Cases (parts_of c.in_ok-cases-in-Switch.cases.items) (has_default (groups_of c.deref-in-Switch-3.result.now)))) (stmt_at n ms (stmt_of c.args.s.now))
    (ap₂ (λ S ps. seq_two S (Cases ps (has_default (groups_of c.deref-in-Switch-3.result.now)))) on cases
    ∙ ap (λ gs. seq_two (expr_at n ms (expr_of i.on.value)) (Cases (groups_at n ms (groups_of i.groups.items)) (has_default (groups_of gs)))) c.deref-in-Switch-3.ensures.value
    ∙ of_switch n ms c.args.s.now i.on i.groups i.is)
    c.switch_of.ensures
