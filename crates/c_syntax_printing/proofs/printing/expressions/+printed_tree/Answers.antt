use Rattle.std.proofs.Common.{arith, false}
use Rattle.c_lexer.specs.declared.punctuator.TheConstants.{INCREMENT, DECREMENT, LEFT_PARENTHESIS, LEFT_BRACKET, DOT, ARROW, AND, OR, QUESTION, COLON}
use Rattle.c_syntax.specs.Print.{expr_kinds, operand_kinds}
use Rattle.c_syntax.proofs.Writing.{and_then, and_last, name_last, written_as, all_written, one_written}
use Rattle.c_syntax.proofs.Rows.{comma_last, call_last, function_last, operand_last, type_is, params_written}
use Rattle.c_syntax_printing.specs.PrintedOperands.{before_kinds, after_kinds}
use Rattle.c_syntax_printing.proofs.PrintedOperands.{tree_written, tree_last}
use Rattle.c_syntax.specs.View.{expr_of}
use Rattle.c_syntax.specs.Writes.{exprs_of, left_kinds, separator}
use Rattle.c_syntax_printing.proofs.Lists.{exprs_first, no_exprs_left}
use Rattle.c_syntax_printing.proofs.printing.expressions.+printed_tree.Goals as goal

pub write_declarator-returns-in_ok-write_params-in-Function :
    goal.write_declarator-returns-in_ok-write_params-in-Function
write_declarator-returns-in_ok-write_params-in-Function t c =
    rw c.in-Function.is
    (function_last _ _ c.push_punctuator-in-Function-2.new.out.items c.args.e.now.at c.in-Function.inner c.in-Function.params _ c.deref-in-Function.ensures.value
    (and_last _ _ _ (and_then (and_then c.in_ok-write_inner-in-Function.ensures c.in_ok-push_punctuator-in-Function.ensures) c.in_ok-write_params-in-Function.ensures) c.push_punctuator-in-Function-2.ensures))

pub write_expr-returns-in-Comma : goal.write_expr-returns-in-Comma
write_expr-returns-in-Comma t c =
    rw c.in-Comma.is (comma_last _ _ _ c.args.e.now.at c.in-Comma.es _ c.deref.ensures.value c.write_list.ensures)

pub write_expr-returns-in_ok-push_keyword-in-SizeofType : goal.write_expr-returns-in_ok-push_keyword-in-SizeofType
write_expr-returns-in_ok-push_keyword-in-SizeofType t c =
    rw c.in-SizeofType.is (and_last _ _ _ c.in_ok-push_keyword-in-SizeofType.ensures c.write_type.ensures)

pub write_expr-returns-in_ok-write_type-in-Cast : goal.write_expr-returns-in_ok-write_type-in-Cast
write_expr-returns-in_ok-write_type-in-Cast t c =
    rw c.in-Cast.is (and_last _ _ _ c.in_ok-write_type-in-Cast.ensures (operand_last _ _ _ _ c.in-Cast.a.value c.deref-in-Cast.ensures c.write_operand.ensures))

pub write_expr-returns-in_ok-write_list-in-Call : goal.write_expr-returns-in_ok-write_list-in-Call
write_expr-returns-in_ok-write_list-in-Call t c =
    rw c.in-Call.is
    (call_last _ _ c.push_punctuator.new.out.items c.args.e.now.at c.in-Call.a c.in-Call.es _ c.deref-in-Call-2.ensures.value
    (and_last _ _ _ (and_then (tree_written (before_kinds LEFT_PARENTHESIS) _ c.in-Call.a.value c.deref-in-Call.ensures c.in_ok-write_before-in-Call.ensures) c.in_ok-write_list-in-Call.ensures) c.push_punctuator.ensures))

pub write_expr-returns-in_ok-write_before-in-Member : goal.write_expr-returns-in_ok-write_before-in-Member
write_expr-returns-in_ok-write_before-in-Member t c =
    rw c.in-Member.is
    (and_last _ _ _ (tree_written (before_kinds DOT) _ c.in-Member.a.value c.deref-in-Member.ensures c.in_ok-write_before-in-Member.ensures) (name_last _ _ _ _ _ c.as_slice-in-Member.ensures c.push_name-in-Member.ensures))

pub write_expr-returns-in_ok-write_before-in-Arrow : goal.write_expr-returns-in_ok-write_before-in-Arrow
write_expr-returns-in_ok-write_before-in-Arrow t c =
    rw c.in-Arrow.is
    (and_last _ _ _ (tree_written (before_kinds ARROW) _ c.in-Arrow.a.value c.deref-in-Arrow.ensures c.in_ok-write_before-in-Arrow.ensures) (name_last _ _ _ _ _ c.as_slice-in-Arrow.ensures c.push_name-in-Arrow.ensures))

pub write_expr-returns-in-PostInc : goal.write_expr-returns-in-PostInc
write_expr-returns-in-PostInc t c =
    rw c.in-PostInc.is (tree_last _ _ _ (before_kinds INCREMENT) _ c.in-PostInc.a.value c.deref-in-PostInc.ensures c.write_before-in-PostInc.ensures)

pub write_expr-returns-in-PostDec : goal.write_expr-returns-in-PostDec
write_expr-returns-in-PostDec t c =
    rw c.in-PostDec.is (tree_last _ _ _ (before_kinds DECREMENT) _ c.in-PostDec.a.value c.deref-in-PostDec.ensures c.write_before-in-PostDec.ensures)

pub write_expr-returns-in-PreInc : goal.write_expr-returns-in-PreInc
write_expr-returns-in-PreInc t c =
    rw c.in-PreInc.is (tree_last _ _ _ (after_kinds INCREMENT) _ c.in-PreInc.a.value c.deref-in-PreInc.ensures c.write_after.ensures)

pub write_expr-returns-in-PreDec : goal.write_expr-returns-in-PreDec
write_expr-returns-in-PreDec t c =
    rw c.in-PreDec.is (tree_last _ _ _ (after_kinds DECREMENT) _ c.in-PreDec.a.value c.deref-in-PreDec.ensures c.write_after-in-PreDec.ensures)

pub write_expr-returns-in-Unary : goal.write_expr-returns-in-Unary
write_expr-returns-in-Unary t c =
    rw c.in-Unary.is (tree_last _ _ _ (after_kinds c.in-Unary.operator) _ c.in-Unary.a.value c.deref-in-Unary.ensures c.write_after-in-Unary.ensures)

pub write_expr-returns-in_ok-push_keyword-in-SizeofExpr : goal.write_expr-returns-in_ok-push_keyword-in-SizeofExpr
write_expr-returns-in_ok-push_keyword-in-SizeofExpr t c =
    rw c.in-SizeofExpr.is (and_last _ _ _ c.in_ok-push_keyword-in-SizeofExpr.ensures (operand_last _ _ _ _ c.in-SizeofExpr.a.value c.deref-in-SizeofExpr.ensures c.write_operand-in-SizeofExpr.ensures))

pub write_expr-returns-in_ok-write_expr-in-Index : goal.write_expr-returns-in_ok-write_expr-in-Index
write_expr-returns-in_ok-write_expr-in-Index t c =
    rw c.in-Index.is
    (and_last _ _ _
    (and_then (tree_written (before_kinds LEFT_BRACKET) _ c.in-Index.a.value c.deref-in-Index.ensures c.in_ok-write_before-in-Index.ensures) (tree_written expr_kinds _ c.in-Index.b.value c.deref-in-Index-2.ensures c.in_ok-write_expr-in-Index.ensures))
    c.push_punctuator-in-Index.ensures)

pub write_expr-returns-in_ok-write_before-in-And : goal.write_expr-returns-in_ok-write_before-in-And
write_expr-returns-in_ok-write_before-in-And t c =
    rw c.in-And.is
    (and_last _ _ _ (tree_written (before_kinds AND) _ c.in-And.a.value c.deref-in-And.ensures c.in_ok-write_before-in-And.ensures) (operand_last _ _ _ _ c.in-And.b.value c.deref-in-And-2.ensures c.write_operand-in-And.ensures))

pub write_expr-returns-in_ok-write_before-in-Or : goal.write_expr-returns-in_ok-write_before-in-Or
write_expr-returns-in_ok-write_before-in-Or t c =
    rw c.in-Or.is
    (and_last _ _ _ (tree_written (before_kinds OR) _ c.in-Or.a.value c.deref-in-Or.ensures c.in_ok-write_before-in-Or.ensures) (operand_last _ _ _ _ c.in-Or.b.value c.deref-in-Or-2.ensures c.write_operand-in-Or.ensures))

pub write_expr-returns-in_ok-write_before-in-Binary : goal.write_expr-returns-in_ok-write_before-in-Binary
write_expr-returns-in_ok-write_before-in-Binary t c =
    rw c.in-Binary.is
    (and_last _ _ _ (tree_written (before_kinds c.in-Binary.operator) _ c.in-Binary.a.value c.deref-in-Binary.ensures c.in_ok-write_before-in-Binary.ensures) (operand_last _ _ _ _ c.in-Binary.b.value c.deref-in-Binary-2.ensures c.write_operand-in-Binary.ensures))

pub write_expr-returns-in_ok-write_before-in-Assign : goal.write_expr-returns-in_ok-write_before-in-Assign
write_expr-returns-in_ok-write_before-in-Assign t c =
    rw c.in-Assign.is
    (and_last _ _ _ (tree_written (before_kinds c.in-Assign.operator) _ c.in-Assign.a.value c.deref-in-Assign.ensures c.in_ok-write_before-in-Assign.ensures) (operand_last _ _ _ _ c.in-Assign.b.value c.deref-in-Assign-2.ensures c.write_operand-in-Assign.ensures))

pub write_expr-returns-in_ok-write_before-in-Cond-2 : goal.write_expr-returns-in_ok-write_before-in-Cond-2
write_expr-returns-in_ok-write_before-in-Cond-2 t c =
    rw c.in-Cond.is
    (and_last _ _ _
    (and_then (tree_written (before_kinds QUESTION) _ c.in-Cond.a.value c.deref-in-Cond.ensures c.in_ok-write_before-in-Cond.ensures) (tree_written (before_kinds COLON) _ c.in-Cond.b.value c.deref-in-Cond-2.ensures c.in_ok-write_before-in-Cond-2.ensures))
    (operand_last _ _ _ _ c.in-Cond.c.value c.deref-in-Cond-3.ensures c.write_operand-in-Cond.ensures))

pub write_before-returns : goal.write_before-returns
write_before-returns t c =
    and_last _ _ _ c.in_ok-write_operand.ensures c.push_punctuator.ensures

pub write_after-returns : goal.write_after-returns
write_after-returns t c =
    and_last _ _ _ c.in_ok-push_punctuator.ensures c.write_operand.ensures

pub write_type-returns : goal.write_type-returns
write_type-returns t c =
    and_last _ _ _
    (and_then c.in_ok-push_punctuator.ensures (written_as _ (type_is c.args.n.now) c.in_ok-write_typed.ensures))
    c.push_punctuator-2.ensures

pub write_params-returns : goal.write_params-returns
write_params-returns t c =
    params_written c.args.params.now c.loop-param.param-index c.loop-param.first _ _ c.if-is_empty.ensures (omega arith) c.loop-param.invariant

pub write_list-loop-e-preserved : goal.write_list-loop-e-preserved
write_list-loop-e-preserved t c =
    one_written (λ xs. left_kinds c.loop-e.first (exprs_of xs)) (λ xs. left_kinds false (exprs_of xs)) (λ x k. separator c.loop-e.first (operand_kinds (expr_of x) k)) (exprs_first c.loop-e.first)
    c.args.es.now c.loop-e.e-index c.e-item.result c.loop-e-test.true c.e-item.is c.loop-e.invariant (and_then c.in_ok-push_separator.ensures c.in_ok-write_operand.ensures)

pub write_list-returns : goal.write_list-returns
write_list-returns t c =
    all_written (λ xs. left_kinds c.loop-e.first (exprs_of xs)) (no_exprs_left c.loop-e.first) c.args.es.now c.loop-e.e-index (omega arith) c.loop-e.invariant
