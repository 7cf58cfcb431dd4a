use Rattle.std.proofs.Common.{map, ap, ap₂, sym, ◌∙◌}
use Rattle.c_syntax.specs.Tree.{cast, member, dot, arrow, postfix, post_increment, post_decrement, prefix, pre_increment, pre_decrement, sizeof, unary, index, binary, and, or, operator, assign, conditional, no_params}
use Rattle.c_syntax.specs.View.{spec_of, expr_at, expr_of}
use Rattle.c_syntax.specs.Writes.{declarator_in}
use Rattle.c_syntax_nodes.specs.Copied.{param_of}
use Rattle.c_syntax.proofs.BackTokens.{ap_three}
use Rattle.c_syntax_nodes.proofs.CopyLemmas.{comma_same, call_same, pointer_same, array_same, function_same, type_same, param_same, made_as}
use Rattle.c_syntax_nodes.proofs.copies.+copying.Goals as goal

pub copy_expr-returns-in_ok-list-in-Comma : goal.copy_expr-returns-in_ok-list-in-Comma
copy_expr-returns-in_ok-list-in-Comma t c = c.comma_node.ensures ∙ comma_same c.args.e.now c.in-Comma.es c.in_ok-list-in-Comma.list c.in-Comma.is (c.in_ok-list-in-Comma.ensures ∙ ap (map expr_of) c.deref.ensures.value)

pub copy_expr-returns-in_ok-arguments-in-Call : goal.copy_expr-returns-in_ok-arguments-in-Call
copy_expr-returns-in_ok-arguments-in-Call t c =
    made_as expr_of c.call_node.result _ _
    (call_same c.args.e.now c.in-Call.d c.in-Call.es c.in_ok-arguments-in-Call.arguments (expr_of c.in_ok-designator-in-Call.designator) c.in-Call.is (c.in_ok-designator-in-Call.ensures ∙ ap expr_of c.deref-in-Call.ensures)
    (c.in_ok-arguments-in-Call.ensures ∙ ap (map expr_of) c.deref-in-Call-2.ensures.value)) c.call_node.ensures

pub copy_declarator-returns-in_ok-target-in-Pointer : goal.copy_declarator-returns-in_ok-target-in-Pointer
copy_declarator-returns-in_ok-target-in-Pointer t c = c.pointer_node.ensures ∙ pointer_same c.args.d.now c.in-Pointer.inner _ c.in-Pointer.is c.in_ok-target-in-Pointer.ensures

pub copy_declarator-returns-in_ok-size-in-Array : goal.copy_declarator-returns-in_ok-size-in-Array
copy_declarator-returns-in_ok-size-in-Array t c = c.array_node.ensures ∙ array_same c.args.d.now c.in-Array.inner c.in-Array.size _ _ c.in-Array.is c.in_ok-element-in-Array.ensures c.in_ok-size-in-Array.ensures

pub copy_declarator-returns-in_ok-params-in-Function : goal.copy_declarator-returns-in_ok-params-in-Function
copy_declarator-returns-in_ok-params-in-Function t c =
    c.function_node.ensures ∙ function_same c.args.d.now c.in-Function.inner c.in-Function.params c.in_ok-params-in-Function.params _ c.in-Function.is c.in_ok-function-in-Function.ensures (c.in_ok-params-in-Function.ensures ∙ ap (map param_of) c.deref.ensures.value)

pub copy_type_name-returns : goal.copy_type_name-returns
copy_type_name-returns t c = c.type_name_node.ensures ∙ type_same c.args.n.now (spec_of c.in_ok-spec.spec) (declarator_in c.in_ok-declarator.declarator) c.in_ok-spec.ensures c.in_ok-declarator.ensures

pub copy_param-returns : goal.copy_param-returns
copy_param-returns t c = c.param_node.ensures no_params ∙ param_same c.args.p.now (spec_of c.in_ok-spec.spec) (declarator_in c.in_ok-declarator.declarator) c.in_ok-spec.ensures c.in_ok-declarator.ensures

pub copy_expr-returns-in_ok-operand-in-Cast : goal.copy_expr-returns-in_ok-operand-in-Cast
copy_expr-returns-in_ok-operand-in-Cast t c =
    made_as expr_of c.cast_node.result _ _ (ap₂ (cast c.args.e.now.at) c.in_ok-target-in-Cast.ensures (c.in_ok-operand-in-Cast.ensures ∙ ap expr_of c.deref-in-Cast.ensures) ∙ sym (ap (expr_at c.args.e.now.at) c.in-Cast.is)) c.cast_node.ensures

pub copy_expr-returns-in_ok-name-in-Member : goal.copy_expr-returns-in_ok-name-in-Member
copy_expr-returns-in_ok-name-in-Member t c =
    made_as expr_of c.member_node.result _ _ (ap₂ (member c.args.e.now.at dot) (c.in_ok-object-in-Member.ensures ∙ ap expr_of c.deref-in-Member.ensures) c.in_ok-name-in-Member.ensures ∙ sym (ap (expr_at c.args.e.now.at) c.in-Member.is)) c.member_node.ensures

pub copy_expr-returns-in_ok-name-in-Arrow : goal.copy_expr-returns-in_ok-name-in-Arrow
copy_expr-returns-in_ok-name-in-Arrow t c =
    made_as expr_of c.arrow_node.result _ _ (ap₂ (member c.args.e.now.at arrow) (c.in_ok-object-in-Arrow.ensures ∙ ap expr_of c.deref-in-Arrow.ensures) c.in_ok-name-in-Arrow.ensures ∙ sym (ap (expr_at c.args.e.now.at) c.in-Arrow.is)) c.arrow_node.ensures

pub copy_expr-returns-in_ok-operand-in-PostInc : goal.copy_expr-returns-in_ok-operand-in-PostInc
copy_expr-returns-in_ok-operand-in-PostInc t c =
    made_as expr_of c.post_inc_node.result _ _ (ap (postfix c.args.e.now.at post_increment) (c.in_ok-operand-in-PostInc.ensures ∙ ap expr_of c.deref-in-PostInc.ensures) ∙ sym (ap (expr_at c.args.e.now.at) c.in-PostInc.is)) c.post_inc_node.ensures

pub copy_expr-returns-in_ok-operand-in-PostDec : goal.copy_expr-returns-in_ok-operand-in-PostDec
copy_expr-returns-in_ok-operand-in-PostDec t c =
    made_as expr_of c.post_dec_node.result _ _ (ap (postfix c.args.e.now.at post_decrement) (c.in_ok-operand-in-PostDec.ensures ∙ ap expr_of c.deref-in-PostDec.ensures) ∙ sym (ap (expr_at c.args.e.now.at) c.in-PostDec.is)) c.post_dec_node.ensures

pub copy_expr-returns-in_ok-operand-in-PreInc : goal.copy_expr-returns-in_ok-operand-in-PreInc
copy_expr-returns-in_ok-operand-in-PreInc t c =
    made_as expr_of c.pre_inc_node.result _ _ (ap (prefix c.args.e.now.at pre_increment) (c.in_ok-operand-in-PreInc.ensures ∙ ap expr_of c.deref-in-PreInc.ensures) ∙ sym (ap (expr_at c.args.e.now.at) c.in-PreInc.is)) c.pre_inc_node.ensures

pub copy_expr-returns-in_ok-operand-in-PreDec : goal.copy_expr-returns-in_ok-operand-in-PreDec
copy_expr-returns-in_ok-operand-in-PreDec t c =
    made_as expr_of c.pre_dec_node.result _ _ (ap (prefix c.args.e.now.at pre_decrement) (c.in_ok-operand-in-PreDec.ensures ∙ ap expr_of c.deref-in-PreDec.ensures) ∙ sym (ap (expr_at c.args.e.now.at) c.in-PreDec.is)) c.pre_dec_node.ensures

pub copy_expr-returns-in_ok-operand-in-SizeofExpr : goal.copy_expr-returns-in_ok-operand-in-SizeofExpr
copy_expr-returns-in_ok-operand-in-SizeofExpr t c =
    made_as expr_of c.sizeof_expr_node.result _ _ (ap (prefix c.args.e.now.at sizeof) (c.in_ok-operand-in-SizeofExpr.ensures ∙ ap expr_of c.deref-in-SizeofExpr.ensures) ∙ sym (ap (expr_at c.args.e.now.at) c.in-SizeofExpr.is)) c.sizeof_expr_node.ensures

pub copy_expr-returns-in_ok-operand-in-Unary : goal.copy_expr-returns-in_ok-operand-in-Unary
copy_expr-returns-in_ok-operand-in-Unary t c =
    made_as expr_of c.unary_node.result _ _ (ap (unary c.args.e.now.at c.in-Unary.op) (c.in_ok-operand-in-Unary.ensures ∙ ap expr_of c.deref-in-Unary.ensures) ∙ sym (ap (expr_at c.args.e.now.at) c.in-Unary.is)) c.unary_node.ensures

pub copy_expr-returns-in_ok-right-in-Index : goal.copy_expr-returns-in_ok-right-in-Index
copy_expr-returns-in_ok-right-in-Index t c =
    made_as expr_of c.index_node.result _ _ (ap₂ (index c.args.e.now.at) (c.in_ok-left-in-Index.ensures ∙ ap expr_of c.deref-in-Index.ensures) (c.in_ok-right-in-Index.ensures ∙ ap expr_of c.deref-in-Index-2.ensures) ∙ sym (ap (expr_at c.args.e.now.at) c.in-Index.is)) c.index_node.ensures

pub copy_expr-returns-in_ok-right-in-And : goal.copy_expr-returns-in_ok-right-in-And
copy_expr-returns-in_ok-right-in-And t c =
    made_as expr_of c.and_node.result _ _ (ap₂ (binary c.args.e.now.at and) (c.in_ok-left-in-And.ensures ∙ ap expr_of c.deref-in-And.ensures) (c.in_ok-right-in-And.ensures ∙ ap expr_of c.deref-in-And-2.ensures) ∙ sym (ap (expr_at c.args.e.now.at) c.in-And.is)) c.and_node.ensures

pub copy_expr-returns-in_ok-right-in-Or : goal.copy_expr-returns-in_ok-right-in-Or
copy_expr-returns-in_ok-right-in-Or t c =
    made_as expr_of c.or_node.result _ _ (ap₂ (binary c.args.e.now.at or) (c.in_ok-left-in-Or.ensures ∙ ap expr_of c.deref-in-Or.ensures) (c.in_ok-right-in-Or.ensures ∙ ap expr_of c.deref-in-Or-2.ensures) ∙ sym (ap (expr_at c.args.e.now.at) c.in-Or.is)) c.or_node.ensures

pub copy_expr-returns-in_ok-right-in-Binary : goal.copy_expr-returns-in_ok-right-in-Binary
copy_expr-returns-in_ok-right-in-Binary t c =
    made_as expr_of c.binary_node.result _ _ (ap₂ (binary c.args.e.now.at (operator c.in-Binary.op)) (c.in_ok-left-in-Binary.ensures ∙ ap expr_of c.deref-in-Binary.ensures) (c.in_ok-right-in-Binary.ensures ∙ ap expr_of c.deref-in-Binary-2.ensures) ∙ sym (ap (expr_at c.args.e.now.at) c.in-Binary.is)) c.binary_node.ensures

pub copy_expr-returns-in_ok-right-in-Assign : goal.copy_expr-returns-in_ok-right-in-Assign
copy_expr-returns-in_ok-right-in-Assign t c =
    made_as expr_of c.assign_node.result _ _ (ap₂ (assign c.args.e.now.at c.in-Assign.op) (c.in_ok-left-in-Assign.ensures ∙ ap expr_of c.deref-in-Assign.ensures) (c.in_ok-right-in-Assign.ensures ∙ ap expr_of c.deref-in-Assign-2.ensures) ∙ sym (ap (expr_at c.args.e.now.at) c.in-Assign.is)) c.assign_node.ensures

pub copy_expr-returns-in_ok-third-in-Cond : goal.copy_expr-returns-in_ok-third-in-Cond
copy_expr-returns-in_ok-third-in-Cond t c =
    made_as expr_of c.cond_node.result _ _ (ap_three (conditional c.args.e.now.at) (c.in_ok-first-in-Cond.ensures ∙ ap expr_of c.deref-in-Cond.ensures) (c.in_ok-second-in-Cond.ensures ∙ ap expr_of c.deref-in-Cond-2.ensures) (c.in_ok-third-in-Cond.ensures ∙ ap expr_of c.deref-in-Cond-3.ensures) ∙ sym (ap (expr_at c.args.e.now.at) c.in-Cond.is)) c.cond_node.ensures
