use Rattle.std.proofs.Common.{arith, false}
use Rattle.c_lexer.specs.declared.punctuator.TheConstants.{INCREMENT, DECREMENT, LEFT_PARENTHESIS, LEFT_BRACKET, DOT, ARROW, AND, OR, QUESTION, COLON}
use Rattle.c_syntax.specs.Print.{expr_kinds, operand_kinds}
use Rattle.c_syntax.proofs.Rows.{type_is}
use Rattle.c_syntax_printing.specs.PrintedOperands.{before_kinds, after_kinds}
use Rattle.c_syntax_printing.proofs.Counting.{and_then, name_is, counted_as, all_counted, one_counted}
use Rattle.c_syntax_printing.proofs.PrintedOperands.{tree_counted}
use Rattle.c_syntax_printing.proofs.Rows.{comma_is, call_is, function_is, params_counted}
use Rattle.c_syntax.specs.View.{expr_of}
use Rattle.c_syntax.specs.Writes.{exprs_of, left_kinds, separator}
use Rattle.c_syntax_printing.proofs.Lists.{exprs_first, no_exprs_left}
use Rattle.c_syntax_printing.proofs.expression_lengths.+counted_tree.Goals as goal

pub count_declarator-returns-in-Function : goal.count_declarator-returns-in-Function
count_declarator-returns-in-Function t c =
    rw c.in-Function.is
    (counted_as _ (function_is c.args.e.now.at c.in-Function.inner c.in-Function.params _ c.deref-in-Function.ensures.value)
    (and_then (and_then (and_then c.count_inner-total-in-Function.ensures c.count_punctuator-total-in-Function.ensures) c.count_params-total.ensures) c.count_punctuator-in-Function.ensures))

pub count_expr-returns-in-Comma : goal.count_expr-returns-in-Comma
count_expr-returns-in-Comma t c =
    rw c.in-Comma.is (counted_as _ (comma_is c.args.e.now.at c.in-Comma.es _ c.deref.ensures.value) c.count_list.ensures)

pub count_expr-returns-in-SizeofType : goal.count_expr-returns-in-SizeofType
count_expr-returns-in-SizeofType t c =
    rw c.in-SizeofType.is (and_then c.count_keyword-total.ensures c.count_type.ensures)

pub count_expr-returns-in-Cast : goal.count_expr-returns-in-Cast
count_expr-returns-in-Cast t c =
    rw c.in-Cast.is (and_then c.count_type-total.ensures (tree_counted operand_kinds _ c.in-Cast.a.value c.deref-in-Cast.ensures c.count_operand.ensures))

pub count_expr-returns-in-Call : goal.count_expr-returns-in-Call
count_expr-returns-in-Call t c =
    rw c.in-Call.is
    (counted_as _ (call_is c.args.e.now.at c.in-Call.a c.in-Call.es _ c.deref-in-Call-2.ensures.value)
    (and_then (and_then (tree_counted (before_kinds LEFT_PARENTHESIS) _ c.in-Call.a.value c.deref-in-Call.ensures c.count_before-total.ensures) c.count_list-total.ensures) c.count_punctuator.ensures))

pub count_expr-returns-in-Member : goal.count_expr-returns-in-Member
count_expr-returns-in-Member t c =
    rw c.in-Member.is
    (and_then (tree_counted (before_kinds DOT) _ c.in-Member.a.value c.deref-in-Member.ensures c.count_before-total-in-Member.ensures) (name_is _ _ c.as_slice-in-Member.ensures c.count_name-in-Member.ensures))

pub count_expr-returns-in-Arrow : goal.count_expr-returns-in-Arrow
count_expr-returns-in-Arrow t c =
    rw c.in-Arrow.is
    (and_then (tree_counted (before_kinds ARROW) _ c.in-Arrow.a.value c.deref-in-Arrow.ensures c.count_before-total-in-Arrow.ensures) (name_is _ _ c.as_slice-in-Arrow.ensures c.count_name-in-Arrow.ensures))

pub count_expr-returns-in-PostInc : goal.count_expr-returns-in-PostInc
count_expr-returns-in-PostInc t c =
    rw c.in-PostInc.is (tree_counted (before_kinds INCREMENT) _ c.in-PostInc.a.value c.deref-in-PostInc.ensures c.count_before.ensures)

pub count_expr-returns-in-PostDec : goal.count_expr-returns-in-PostDec
count_expr-returns-in-PostDec t c =
    rw c.in-PostDec.is (tree_counted (before_kinds DECREMENT) _ c.in-PostDec.a.value c.deref-in-PostDec.ensures c.count_before-in-PostDec.ensures)

pub count_expr-returns-in-PreInc : goal.count_expr-returns-in-PreInc
count_expr-returns-in-PreInc t c =
    rw c.in-PreInc.is (tree_counted (after_kinds INCREMENT) _ c.in-PreInc.a.value c.deref-in-PreInc.ensures c.count_after.ensures)

pub count_expr-returns-in-PreDec : goal.count_expr-returns-in-PreDec
count_expr-returns-in-PreDec t c =
    rw c.in-PreDec.is (tree_counted (after_kinds DECREMENT) _ c.in-PreDec.a.value c.deref-in-PreDec.ensures c.count_after-in-PreDec.ensures)

pub count_expr-returns-in-Unary : goal.count_expr-returns-in-Unary
count_expr-returns-in-Unary t c =
    rw c.in-Unary.is (tree_counted (after_kinds c.in-Unary.operator) _ c.in-Unary.a.value c.deref-in-Unary.ensures c.count_after-in-Unary.ensures)

pub count_expr-returns-in-SizeofExpr : goal.count_expr-returns-in-SizeofExpr
count_expr-returns-in-SizeofExpr t c =
    rw c.in-SizeofExpr.is (and_then c.count_keyword-total-in-SizeofExpr.ensures (tree_counted operand_kinds _ c.in-SizeofExpr.a.value c.deref-in-SizeofExpr.ensures c.count_operand-in-SizeofExpr.ensures))

pub count_expr-returns-in-Index : goal.count_expr-returns-in-Index
count_expr-returns-in-Index t c =
    rw c.in-Index.is
    (and_then (and_then (tree_counted (before_kinds LEFT_BRACKET) _ c.in-Index.a.value c.deref-in-Index.ensures c.count_before-total-in-Index.ensures) (tree_counted expr_kinds _ c.in-Index.b.value c.deref-in-Index-2.ensures c.count_expr-total.ensures)) c.count_punctuator-in-Index.ensures)

pub count_expr-returns-in-And : goal.count_expr-returns-in-And
count_expr-returns-in-And t c =
    rw c.in-And.is
    (and_then (tree_counted (before_kinds AND) _ c.in-And.a.value c.deref-in-And.ensures c.count_before-total-in-And.ensures) (tree_counted operand_kinds _ c.in-And.b.value c.deref-in-And-2.ensures c.count_operand-in-And.ensures))

pub count_expr-returns-in-Or : goal.count_expr-returns-in-Or
count_expr-returns-in-Or t c =
    rw c.in-Or.is
    (and_then (tree_counted (before_kinds OR) _ c.in-Or.a.value c.deref-in-Or.ensures c.count_before-total-in-Or.ensures) (tree_counted operand_kinds _ c.in-Or.b.value c.deref-in-Or-2.ensures c.count_operand-in-Or.ensures))

pub count_expr-returns-in-Binary : goal.count_expr-returns-in-Binary
count_expr-returns-in-Binary t c =
    rw c.in-Binary.is
    (and_then (tree_counted (before_kinds c.in-Binary.operator) _ c.in-Binary.a.value c.deref-in-Binary.ensures c.count_before-total-in-Binary.ensures) (tree_counted operand_kinds _ c.in-Binary.b.value c.deref-in-Binary-2.ensures c.count_operand-in-Binary.ensures))

pub count_expr-returns-in-Assign : goal.count_expr-returns-in-Assign
count_expr-returns-in-Assign t c =
    rw c.in-Assign.is
    (and_then (tree_counted (before_kinds c.in-Assign.operator) _ c.in-Assign.a.value c.deref-in-Assign.ensures c.count_before-total-in-Assign.ensures) (tree_counted operand_kinds _ c.in-Assign.b.value c.deref-in-Assign-2.ensures c.count_operand-in-Assign.ensures))

pub count_expr-returns-in-Cond : goal.count_expr-returns-in-Cond
count_expr-returns-in-Cond t c =
    rw c.in-Cond.is
    (and_then
    (and_then (tree_counted (before_kinds QUESTION) _ c.in-Cond.a.value c.deref-in-Cond.ensures c.count_before-total-in-Cond.ensures) (tree_counted (before_kinds COLON) _ c.in-Cond.b.value c.deref-in-Cond-2.ensures c.count_before-total-in-Cond-2.ensures))
    (tree_counted operand_kinds _ c.in-Cond.c.value c.deref-in-Cond-3.ensures c.count_operand-in-Cond.ensures))

pub count_before-returns : goal.count_before-returns
count_before-returns t c =
    and_then c.count_operand-total.ensures c.count_punctuator.ensures

pub count_after-returns : goal.count_after-returns
count_after-returns t c =
    and_then c.count_punctuator-total.ensures c.count_operand.ensures

pub count_type-returns : goal.count_type-returns
count_type-returns t c =
    and_then
    (and_then c.count_punctuator-total.ensures (counted_as _ (type_is c.args.n.now) c.count_typed-total.ensures))
    c.count_punctuator.ensures

pub count_params-returns : goal.count_params-returns
count_params-returns t c =
    params_counted c.args.params.now c.loop-param.param-index c.loop-param.first _ _ c.if-is_empty.ensures (omega arith) c.loop-param.invariant

pub count_list-loop-e-preserved : goal.count_list-loop-e-preserved
count_list-loop-e-preserved t c =
    one_counted (λ xs. left_kinds c.loop-e.first (exprs_of xs)) (λ xs. left_kinds false (exprs_of xs)) (λ x k. separator c.loop-e.first (operand_kinds (expr_of x) k)) (exprs_first c.loop-e.first)
    c.args.es.now c.loop-e.e-index c.e-item.result c.loop-e-test.true c.e-item.is c.loop-e.invariant (and_then c.count_separator-total.ensures c.count_operand-total.ensures)

pub count_list-returns : goal.count_list-returns
count_list-returns t c =
    all_counted (λ xs. left_kinds c.loop-e.first (exprs_of xs)) (no_exprs_left c.loop-e.first) c.args.es.now c.loop-e.e-index (omega arith) c.loop-e.invariant
