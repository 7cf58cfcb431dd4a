use Rattle.std.proofs.Common.{◌++◌, ◌∙◌, ap, sym}
use Rattle.c_syntax.specs.declared.tree.TypeName.{out-TypeName}
use Rattle.c_syntax.specs.declared.tree.Param.{out-Param}
use Rattle.c_syntax.specs.View.{spec_of, expr_of, type_name_of, declarator_at, declarator_of}
use Rattle.c_syntax.specs.Writes.{exprs_of, params_of, declarator_in, declarator_behind, expr_behind}
use Rattle.c_rules.specs.Tags.{tags_of_spec, tags_of_expr, tags_of_exprs, tags_of_maybe, tags_of_type, tags_of_declarator, tags_of_params}
use Rattle.c_syntax.specs.SeenNames.{seen}
use Rattle.c_check_counts.proofs.Lists.{more_flat, all_flat, on_same, then_on, none_on, two_then_on}
use Rattle.c_check_counts.specs.HeldTags.{tags_of_param}
use Rattle.c_check_counts.proofs.TagLists.{exprs_flat, params_flat}
use Rattle.c_check_counts.proofs.TagNodes.{of_comma, of_call, of_kind, of_leaf, of_one, of_two, of_type, of_param, of_pointer, of_array, of_function}
use Rattle.c_check_counts.proofs.tags.+tags_in.Goals as goal

pub add_expr-returns-in-Comma : goal.add_expr-returns-in-Comma
add_expr-returns-in-Comma t c =
    on_same c.add_exprs.result (seen c.args.into.now.items) (seen c.add_exprs.new.into.items) (tags_of_expr (expr_of c.args.e.now)) (tags_of_exprs (exprs_of c.deref.result.now))
    (of_comma c.args.e.now c.in-Comma.es c.in-Comma.is ∙ ap (λ es. tags_of_exprs (exprs_of es)) (sym c.deref.ensures.value)) c.add_exprs.ensures

pub add_expr-returns-in_ok-add_expr-in-Call : goal.add_expr-returns-in_ok-add_expr-in-Call
add_expr-returns-in_ok-add_expr-in-Call t c =
    then_on c.add_exprs-in-Call.result (seen c.args.into.now.items) (seen c.add_expr-in-Call.new.into.items) (seen c.add_exprs-in-Call.new.into.items) (tags_of_expr (expr_of c.in-Call.d.value)) (tags_of_exprs (exprs_of c.deref-in-Call-2.result.now)) (tags_of_expr (expr_of c.args.e.now))
    (c.in_ok-add_expr-in-Call.ensures ∙ ap (λ d. seen c.args.into.now.items ++ tags_of_expr (expr_of d)) c.deref-in-Call.ensures)
    (of_call c.args.e.now c.in-Call.d c.in-Call.es c.in-Call.is ∙ ap (λ es. tags_of_expr (expr_of c.in-Call.d.value) ++ tags_of_exprs (exprs_of es)) (sym c.deref-in-Call-2.ensures.value))
    c.add_exprs-in-Call.ensures

pub add_expr-returns-in-Member : goal.add_expr-returns-in-Member
add_expr-returns-in-Member t c =
    on_same c.add_expr-in-Member.result (seen c.args.into.now.items) (seen c.add_expr-in-Member.new.into.items) (tags_of_expr (expr_of c.args.e.now)) (tags_of_expr (expr_of c.deref-in-Member.result.now))
    (of_one c.args.e.now c.in-Member.a c.in-Member.is ∙ ap (λ a. tags_of_expr (expr_of a)) (sym c.deref-in-Member.ensures)) c.add_expr-in-Member.ensures

pub add_expr-returns-in_ok-add_expr-in-Index : goal.add_expr-returns-in_ok-add_expr-in-Index
add_expr-returns-in_ok-add_expr-in-Index t c =
    then_on c.add_expr-in-Index-2.result (seen c.args.into.now.items) (seen c.add_expr-in-Index.new.into.items) (seen c.add_expr-in-Index-2.new.into.items) (tags_of_expr (expr_of c.in-Index.a.value)) (tags_of_expr (expr_of c.deref-in-Index-2.result.now)) (tags_of_expr (expr_of c.args.e.now))
    (c.in_ok-add_expr-in-Index.ensures ∙ ap (λ a. seen c.args.into.now.items ++ tags_of_expr (expr_of a)) c.deref-in-Index.ensures)
    (of_two c.args.e.now c.in-Index.a c.in-Index.b c.in-Index.is ∙ ap (λ b. tags_of_expr (expr_of c.in-Index.a.value) ++ tags_of_expr (expr_of b)) (sym c.deref-in-Index-2.ensures))
    c.add_expr-in-Index-2.ensures

pub add_declarator-returns-in_ok-add_inner-in-Function : goal.add_declarator-returns-in_ok-add_inner-in-Function
add_declarator-returns-in_ok-add_inner-in-Function t c =
    then_on c.add_params.result (seen c.args.into.now.items) (seen c.add_inner-in-Function.new.into.items) (seen c.add_params.new.into.items) (tags_of_declarator (declarator_behind c.in-Function.inner)) (tags_of_params (params_of c.deref.result.now)) (tags_of_declarator (declarator_of c.args.d.now))
    c.in_ok-add_inner-in-Function.ensures
    (of_function c.args.d.now c.in-Function.inner c.in-Function.params c.in-Function.is ∙ ap (λ ps. tags_of_declarator (declarator_behind c.in-Function.inner) ++ tags_of_params (params_of ps)) (sym c.deref.ensures.value))
    c.add_params.ensures

pub add_exprs-returns : goal.add_exprs-returns
add_exprs-returns t c =
    all_flat (λ e. tags_of_expr (expr_of e)) c.args.es.now c.loop-e.e-index (seen c.args.into.now.items) (seen c.loop-e.into.items) (tags_of_exprs (exprs_of c.args.es.now)) c.loop-e-test.false (exprs_flat c.args.es.now) c.loop-e.invariant

pub add_params-returns : goal.add_params-returns
add_params-returns t c =
    all_flat tags_of_param c.args.ps.now c.loop-p.p-index (seen c.args.into.now.items) (seen c.loop-p.into.items) (tags_of_params (params_of c.args.ps.now)) c.loop-p-test.false (params_flat c.args.ps.now) c.loop-p.invariant

pub add_expr-returns-in-Name : goal.add_expr-returns-in-Name
add_expr-returns-in-Name t c = none_on (seen c.args.into.now.items) (tags_of_expr (expr_of c.args.e.now)) (of_leaf c.args.e.now c.in-Name.is)

pub add_expr-returns-in-SizeofType : goal.add_expr-returns-in-SizeofType
add_expr-returns-in-SizeofType t c =
    on_same c.add_type.result (seen c.args.into.now.items) (seen c.add_type.new.into.items) (tags_of_expr (expr_of c.args.e.now)) (tags_of_type (type_name_of c.in-SizeofType.n)) (of_kind c.args.e.now _ c.in-SizeofType.is) c.add_type.ensures

pub add_expr-returns-in_ok-add_type-in-Cast : goal.add_expr-returns-in_ok-add_type-in-Cast
add_expr-returns-in_ok-add_type-in-Cast t c =
    then_on c.add_expr.result (seen c.args.into.now.items) (seen c.add_type-in-Cast.new.into.items) (seen c.add_expr.new.into.items) (tags_of_type (type_name_of c.in-Cast.n)) (tags_of_expr (expr_of c.deref-in-Cast.result.now)) (tags_of_expr (expr_of c.args.e.now))
    c.in_ok-add_type-in-Cast.ensures
    (of_kind c.args.e.now _ c.in-Cast.is ∙ ap (λ a. tags_of_type (type_name_of c.in-Cast.n) ++ tags_of_expr (expr_of a)) (sym c.deref-in-Cast.ensures))
    c.add_expr.ensures

pub add_expr-returns-in_ok-add_expr-in-Cond-2 : goal.add_expr-returns-in_ok-add_expr-in-Cond-2
add_expr-returns-in_ok-add_expr-in-Cond-2 t c =
    two_then_on c.add_expr-in-Cond-3.result (seen c.args.into.now.items) (seen c.add_expr-in-Cond.new.into.items) (seen c.add_expr-in-Cond-2.new.into.items) (seen c.add_expr-in-Cond-3.new.into.items) (tags_of_expr (expr_of c.deref-in-Cond.result.now)) (tags_of_expr (expr_of c.deref-in-Cond-2.result.now)) (tags_of_expr (expr_of c.deref-in-Cond-3.result.now)) (tags_of_expr (expr_of c.args.e.now))
    c.in_ok-add_expr-in-Cond.ensures c.in_ok-add_expr-in-Cond-2.ensures
    (of_kind c.args.e.now _ c.in-Cond.is ∙ (λ i. tags_of_expr (expr_of (sym c.deref-in-Cond.ensures i)) ++ (tags_of_expr (expr_of (sym c.deref-in-Cond-2.ensures i)) ++ tags_of_expr (expr_of (sym c.deref-in-Cond-3.ensures i)))))
    c.add_expr-in-Cond-3.ensures

pub add_declarator-returns-in-Name : goal.add_declarator-returns-in-Name
add_declarator-returns-in-Name t c = none_on (seen c.args.into.now.items) (tags_of_declarator (declarator_of c.args.d.now)) (ap (λ k. tags_of_declarator (declarator_at c.args.d.now.at k)) c.in-Name.is)

pub add_declarator-returns-in-Pointer : goal.add_declarator-returns-in-Pointer
add_declarator-returns-in-Pointer t c =
    on_same c.add_inner.result (seen c.args.into.now.items) (seen c.add_inner.new.into.items) (tags_of_declarator (declarator_of c.args.d.now)) (tags_of_declarator (declarator_behind c.in-Pointer.inner)) (of_pointer c.args.d.now c.in-Pointer.inner c.in-Pointer.is) c.add_inner.ensures

pub add_declarator-returns-in_ok-add_inner-in-Array : goal.add_declarator-returns-in_ok-add_inner-in-Array
add_declarator-returns-in_ok-add_inner-in-Array t c =
    then_on c.add_boxed.result (seen c.args.into.now.items) (seen c.add_inner-in-Array.new.into.items) (seen c.add_boxed.new.into.items) (tags_of_declarator (declarator_behind c.in-Array.inner)) (tags_of_maybe (expr_behind c.in-Array.size)) (tags_of_declarator (declarator_of c.args.d.now))
    c.in_ok-add_inner-in-Array.ensures (of_array c.args.d.now c.in-Array.inner c.in-Array.size c.in-Array.is) c.add_boxed.ensures

pub add_held-returns-in-Some : goal.add_held-returns-in-Some
add_held-returns-in-Some t c =
    on_same c.add_declarator.result (seen c.args.into.now.items) (seen c.add_declarator.new.into.items) (tags_of_declarator (declarator_in c.args.held.now)) (tags_of_declarator (declarator_of c.in-Some.d)) (ap (λ h. tags_of_declarator (declarator_in h)) c.in-Some.is) c.add_declarator.ensures

pub add_held-returns-in-None : goal.add_held-returns-in-None
add_held-returns-in-None t c = none_on (seen c.args.into.now.items) (tags_of_declarator (declarator_in c.args.held.now)) (ap (λ h. tags_of_declarator (declarator_in h)) c.in-None.is)

pub add_inner-returns-in-Some : goal.add_inner-returns-in-Some
add_inner-returns-in-Some t c =
    on_same c.add_declarator.result (seen c.args.into.now.items) (seen c.add_declarator.new.into.items) (tags_of_declarator (declarator_behind c.args.inner.now)) (tags_of_declarator (declarator_of c.deref.result.now))
    (ap (λ h. tags_of_declarator (declarator_behind h)) c.in-Some.is ∙ ap (λ d. tags_of_declarator (declarator_of d)) (sym c.deref.ensures)) c.add_declarator.ensures

pub add_inner-returns-in-None : goal.add_inner-returns-in-None
add_inner-returns-in-None t c = none_on (seen c.args.into.now.items) (tags_of_declarator (declarator_behind c.args.inner.now)) (ap (λ h. tags_of_declarator (declarator_behind h)) c.in-None.is)

pub add_boxed-returns-in-Some : goal.add_boxed-returns-in-Some
add_boxed-returns-in-Some t c =
    on_same c.add_expr.result (seen c.args.into.now.items) (seen c.add_expr.new.into.items) (tags_of_maybe (expr_behind c.args.e.now)) (tags_of_expr (expr_of c.deref.result.now))
    (ap (λ h. tags_of_maybe (expr_behind h)) c.in-Some.is ∙ ap (λ e. tags_of_expr (expr_of e)) (sym c.deref.ensures)) c.add_expr.ensures

pub add_boxed-returns-in-None : goal.add_boxed-returns-in-None
add_boxed-returns-in-None t c = none_on (seen c.args.into.now.items) (tags_of_maybe (expr_behind c.args.e.now)) (ap (λ h. tags_of_maybe (expr_behind h)) c.in-None.is)

pub add_type-returns : goal.add_type-returns
add_type-returns t c =
    then_on c.add_held.result (seen c.args.into.now.items) (seen c.add_spec.new.into.items) (seen c.add_held.new.into.items) (tags_of_spec (spec_of (out-TypeName c.args.n.now).spec)) (tags_of_declarator (declarator_in (out-TypeName c.args.n.now).declarator)) (tags_of_type (type_name_of c.args.n.now))
    c.in_ok-add_spec.ensures (of_type c.args.n.now) c.add_held.ensures

pub add_param-returns : goal.add_param-returns
add_param-returns t c =
    then_on c.add_held.result (seen c.args.into.now.items) (seen c.add_spec.new.into.items) (seen c.add_held.new.into.items) (tags_of_spec (spec_of (out-Param c.args.p.now).spec)) (tags_of_declarator (declarator_in (out-Param c.args.p.now).declarator)) (tags_of_param c.args.p.now)
    c.in_ok-add_spec.ensures (of_param c.args.p.now) c.add_held.ensures

pub add_exprs-loop-e-preserved : goal.add_exprs-loop-e-preserved
add_exprs-loop-e-preserved t c =
    more_flat (λ e. tags_of_expr (expr_of e)) c.args.es.now c.loop-e.e-index c.e-item.result (seen c.args.into.now.items) (seen c.loop-e.into.items) (seen c.add_expr.new.into.items) c.loop-e-test.true c.e-item.is c.loop-e.invariant c.in_ok-add_expr.ensures

pub add_params-loop-p-preserved : goal.add_params-loop-p-preserved
add_params-loop-p-preserved t c =
    more_flat tags_of_param c.args.ps.now c.loop-p.p-index c.p-item.result (seen c.args.into.now.items) (seen c.loop-p.into.items) (seen c.add_param.new.into.items) c.loop-p-test.true c.p-item.is c.loop-p.invariant c.in_ok-add_param.ensures
