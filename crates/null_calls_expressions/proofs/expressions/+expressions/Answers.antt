use Rattle.std.proofs.Common.{◌≡◌, ◌∙◌, false, ap, refl, sym}
use Rattle.std.proofs.lemmas.Result.{IfOk-weaker}
use Rattle.c_syntax.specs.declared.tree.Expr.{Expr as ExprTree}
use Rattle.c_syntax.specs.Tree.{comma, cast, conditional, more_exprs}
use Rattle.c_syntax.specs.View.{expr_at, expr_of, type_name_of}
use Rattle.c_syntax.specs.Writes.{exprs_of}
use Rattle.c_syntax.proofs.NodeRows.{comma_is, call_is}
use Rattle.null_calls_temporaries.specs.Sited.{sited}
use Rattle.null_calls_expressions.specs.Wanted.{is_left_out}
use Rattle.null_calls_expressions.proofs.Turns.{both, alike, node, starts, goes_on, ends}
use Rattle.null_calls_expressions.proofs.ExprLemmas.{call_made, member_first}
use Rattle.null_calls_expressions.proofs.OperandLemmas.{of_none, of_one, of_two}
use Rattle.null_calls_expressions.proofs.WantedLemmas.{cast_made, unary_made, alone_made, never_other}
use Rattle.null_calls_expressions.proofs.expressions.+expressions.Goals as goal

pub arguments-loop-i-init : goal.arguments-loop-i-init
arguments-loop-i-init t c = starts c.new-made.ensures.items

pub arguments-loop-i-preserved : goal.arguments-loop-i-preserved
arguments-loop-i-preserved t c =
    goes_on c.in_ok-one.one c.loop-i.invariant c.loop-i-test.true c.index-es-i.is c.in_ok-push.ensures.items (λ r others q. node (both c.in_ok-one.ensures q) (λ z. more_exprs z.0 z.1) refl refl refl refl refl)

pub arguments-returns : goal.arguments-returns
arguments-returns t c = ends c.loop-i.invariant c.loop-i-test.false (λ _ _. refl) refl refl refl

pub members-loop-i-init : goal.members-loop-i-init
members-loop-i-init t c = starts c.new-made.ensures.items

pub members-loop-i-preserved : goal.members-loop-i-preserved
members-loop-i-preserved t c =
    goes_on c.in_ok-one.one c.loop-i.invariant c.loop-i-test.true c.index-es-i.is c.in_ok-push.ensures.items
    (λ r others q. member_first (sited c.args.table.now) c.args.wanted c.is_wanted_at-own.result c.args.es.now c.loop-i.i c.loop-i-test.true c.is_wanted_at-own.ensures c.index-es-i.result c.in_ok-one.ensures q)

pub members-returns : goal.members-returns
members-returns t c = ends c.loop-i.invariant c.loop-i-test.false (λ _ _. refl) refl refl refl

pub instrumented-returns-in_ok-list-in-Comma : goal.instrumented-returns-in_ok-list-in-Comma
instrumented-returns-in_ok-list-in-Comma t c =
    let at = c.args.e.now.at in
    node (alike (ap exprs_of c.deref.ensures.value) c.in_ok-list-in-Comma.ensures) (comma at) (ap (expr_at at) c.in-Comma.is ∙ comma_is at c.in-Comma.es) c.comma_node.ensures refl refl refl

pub instrumented-returns-in_ok-list-in-Call : goal.instrumented-returns-in_ok-list-in-Call
instrumented-returns-in_ok-list-in-Call t c =
    let s = sited c.args.table.now in
    let at = c.args.e.now.at in
    let site = c.instrumented-in-Call.new.next in
    let own = c.in_ok-add_where-in-Call.ensures site (s site) c.after-marked.ensures in
    IfOk-weaker c.call_where.result _ _ (λ made is. call_made s c.args.wanted at site c.raise.new.self _ _ (alike (ap expr_of c.deref-in-Call.ensures) c.in_ok-designator-in-Call.ensures) c.in_ok-raise-in-Call.ensures own
    (alike (ap exprs_of c.deref-in-Call-2.ensures.value) c.in_ok-list-in-Call.ensures) (ap (expr_at at) c.in-Call.is ∙ call_is at c.in-Call.d c.in-Call.es) is) (c.call_where.ensures site (s site) c.after-marked.ensures)

pub instrumented-returns-in_ok-operand-in-Cast : goal.instrumented-returns-in_ok-operand-in-Cast
instrumented-returns-in_ok-operand-in-Cast t c =
    let at = c.args.e.now.at in
    IfOk-weaker c.cast_node.result _ _ (λ made is. cast_made (sited c.args.table.now) c.args.wanted c.is_void.result at (type_name_of c.in-Cast.n) c.is_void.ensures (alike (ap expr_of c.deref-in-Cast.ensures) c.in_ok-operand-in-Cast.ensures)
    (ap (expr_at at) c.in-Cast.is) (is ∙ ap (λ n. cast at n (expr_of c.in_ok-operand-in-Cast.operand)) c.in_ok-target-in-Cast.ensures)) c.cast_node.ensures

pub instrumented-returns-in_ok-third-in-Cond : goal.instrumented-returns-in_ok-third-in-Cond
instrumented-returns-in_ok-third-in-Cond t c =
    let first = alike (ap expr_of c.deref-in-Cond.ensures) c.in_ok-first-in-Cond.ensures in
    let second = alike (ap expr_of c.deref-in-Cond-2.ensures) c.in_ok-second-in-Cond.ensures in
    let third = alike (ap expr_of c.deref-in-Cond-3.ensures) c.in_ok-third-in-Cond.ensures in
    IfOk-weaker c.cond_node.result _ _ (λ made is. node (both first (both second third)) (λ z. conditional c.args.e.now.at z.0 z.1.0 z.1.1) (ap (expr_at c.args.e.now.at) c.in-Cond.is) is refl refl refl) c.cond_node.ensures

pub instrumented-returns-in_ok-operand-in-Unary : goal.instrumented-returns-in_ok-operand-in-Unary
instrumented-returns-in_ok-operand-in-Unary t c =
    let stays : is_left_out c.args.wanted c.in-Unary.op (expr_of c.in-Unary.a.value) ≡ false = ap (λ x. is_left_out c.args.wanted c.in-Unary.op (expr_of x)) (sym c.deref-in-Unary.ensures) ∙ sym c.if-is_without.ensures in
    IfOk-weaker c.unary_node.result _ _ (λ made is. unary_made (sited c.args.table.now) c.args.wanted c.args.e.now.at c.in-Unary.op stays (alike (ap expr_of c.deref-in-Unary-2.ensures) c.in_ok-operand-in-Unary.ensures) (ap (expr_at c.args.e.now.at) c.in-Unary.is) is) c.unary_node.ensures

pub instrumented-unreachable-requires : goal.instrumented-unreachable-requires
instrumented-unreachable-requires t c =
    let left = c.if-is_without.ensures ∙ ap (λ x. is_left_out c.args.wanted c.in-Unary.op (expr_of x)) c.deref-in-Unary.ensures in
    never_other (sited c.args.table.now) c.args.wanted c.args.e.now c.in-Unary.op c.in-Unary.a c.in-Unary.is left (λ inner x q. c.in_default.not-Unary inner x (ap (λ (y : ExprTree). y.kind) c.deref-then-is_without.ensures ∙ q))

pub instrumented-returns-then-is_without : goal.instrumented-returns-then-is_without
instrumented-returns-then-is_without t c =
    let left = c.if-is_without.ensures ∙ ap (λ x. is_left_out c.args.wanted c.in-Unary.op (expr_of x)) c.deref-in-Unary.ensures in
    let under = ap (λ (y : ExprTree). y.kind) (sym c.deref-then-is_without.ensures) ∙ c.in-Unary-kind.is in
    IfOk-weaker c.instrumented-then-is_without.result _ _ (λ made p. alone_made (sited c.args.table.now) c.args.wanted c.args.e.now c.in-Unary.op c.in-Unary.a c.in-Unary.is left _ c.in-Unary-kind.inner under (alike (ap expr_of c.deref-then-is_without-2.ensures) p))
    c.instrumented-then-is_without.ensures

pub instrumented-returns-in-Name : goal.instrumented-returns-in-Name
instrumented-returns-in-Name t c = IfOk-weaker c.copy_expr.result _ _ (λ made is. of_none (sited c.args.table.now) c.args.wanted c.args.e.now c.in-Name.is is) c.copy_expr.ensures

pub instrumented-returns-in_ok-operand-in-Member : goal.instrumented-returns-in_ok-operand-in-Member
instrumented-returns-in_ok-operand-in-Member t c =
    let operand = alike (ap expr_of c.deref-in-Member.ensures) c.in_ok-operand-in-Member.ensures in
    IfOk-weaker c.with_operand.result _ _ (λ made is. of_one (sited c.args.table.now) c.args.wanted c.args.e.now c.in-Member.a c.in-Member.is operand is) c.with_operand.ensures

pub instrumented-returns-in_ok-right-in-Index : goal.instrumented-returns-in_ok-right-in-Index
instrumented-returns-in_ok-right-in-Index t c =
    let left = alike (ap expr_of c.deref-in-Index.ensures) c.in_ok-left-in-Index.ensures in
    let right = alike (ap expr_of c.deref-in-Index-2.ensures) c.in_ok-right-in-Index.ensures in
    IfOk-weaker c.with_operands.result _ _ (λ made is. of_two (sited c.args.table.now) c.args.wanted c.args.e.now c.in-Index.a c.in-Index.b c.in-Index.is (both left right) is) c.with_operands.ensures
