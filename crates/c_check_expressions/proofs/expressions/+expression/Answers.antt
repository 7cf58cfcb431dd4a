use Rattle.std.proofs.Common.{◌≡◌, ◌+◌, [], ◌∷◌, true, false, rules, drop, map, refl, sym, ap, subst, ◌∙◌, w32, append-nil}
use Rattle.std.proofs.lemmas.List.{at_drop_all}
use Rattle.std.proofs.lemmas.Int.{to_z-of_z}
use Rattle.std.proofs.lemmas.Result.{on_ok_weaker}
use Rattle.c_syntax.proofs.NodeRows.{type_name_is}
use Rattle.c_check_types.specs.Agreement.{AgreesWith, Names}
use Rattle.c_check_types.specs.TypedExpressionView.{typed_expression_of}
use Rattle.c_check_types.proofs.Parts.{raised, names_on}
use Rattle.c_check_primary.specs.CalleeView.{callee_of}
use Rattle.c_rules.specs.Assignments.{comma_of}
use Rattle.c_rules.specs.BinaryExpressions.{choice}
use Rattle.c_rules.specs.Checked.{faults, fine, on}
use Rattle.c_rules.specs.Conversions.{valued}
use Rattle.c_rules.specs.Counts.{after, after_designator, calls, calls_of_all, past, place_of, strings_of_all}
use Rattle.c_rules.specs.Declarators.{array_of, array_size, behind_parameter, function_of, is_void_pointer, parameter_of, place_of_type, place_or, pointer_to, type_of_spec, with_name_demands}
use Rattle.c_rules.specs.Expressions.{callee, cast_rule, declared, folded_value, parameters, size_in, tree, trees, type_named, value}
use Rattle.c_rules.specs.PostfixExpressions.{called, callee_by_value, site_of}
use Rattle.c_rules.specs.PrimaryExpressions.{typed_int, named_expression, string_expression}
use Rattle.c_rules.specs.Scopes.{Env, folded, in_context, inside, nothing_before, sized}
use Rattle.c_rules.specs.UnaryExpressions.{cast_of, null_cast, size_of_expression, size_of_type}
use Rattle.c_check_counts.specs.View.{before_of, env_of}
use Rattle.c_check_counts.specs.Environment.{Environment}
use Rattle.c_syntax.specs.View.{declarator_of, expr_of, spec_of, type_name_of}
use Rattle.c_syntax.specs.Writes.{declarator_behind, declarator_in, expr_behind, exprs_of, params_of}
use Rattle.c_syntax.specs.declared.tree.Param.{out-Param}
use Rattle.c_syntax.specs.declared.tree.TypeName.{out-TypeName}
use Rattle.c_tree.specs.View.{ctype_of, types_of}
use Rattle.c_check_expressions.specs.Parts.{first_rule, name_of_param, one_rule, onto_givens, onto_types, two_rule, type_of_param}
use Rattle.c_check_expressions.proofs.Exits.{none_ok, same_ok, kept_then, fails_first, fails_first_of, fails_on, fails_second, fails_second_of, fails_third_of, named_first, named_on, on_ended, on_ok, three_ended, two_ended, counted_as}
use Rattle.c_check_expressions.proofs.Loops.{counted_more, declares_more, declares_none, name_fails, left_again, parameter_more, parameters_begin, before_none, type_fails, value_fails, value_more, values_begin}
use Rattle.c_check_expressions.proofs.NodeLemmas.{after-Call, after-Cast, after-Char, after-Comma, after-Cond, after-Int, after-Name, after-SizeofExpr, after-SizeofType, after-Str, after_one, after_two, past_none, past_designator, place_is}
use Rattle.c_check_expressions.proofs.Trees.{declared-Array, declared-Function, declared-Pointer, operand_fails, tree-Name, tree-Int, tree-Char, box_place, declared-Name, tree-Call, tree-Cast, tree-Comma, tree-Cond, tree-SizeofExpr, tree-SizeofType, tree-Str, tree_of_one, tree_of_two, type_place}
use Rattle.c_check_expressions.proofs.expressions.+expression.Goals as goal

pub tree-returns-in-Name : goal.tree-returns-in-Name
tree-returns-in-Name t c = record {
  judged = subst (AgreesWith typed_expression_of c.named_expression.result) (ap (named_expression (env_of c.args.env.now) c.args.e.now.at) c.as_slice.ensures ∙ sym (tree-Name (env_of c.args.env.now) (before_of c.args.before.now) c.args.e.now c.in-Name.name c.in-Name.is)) c.named_expression.ensures;
  counted = on_ok c.named_expression.result _ (sym (after-Name (before_of c.args.before.now) c.args.e.now c.in-Name.name c.in-Name.is));
  kept = same_ok c.named_expression.result c.args.env.now;
}

pub tree-returns-in-Int : goal.tree-returns-in-Int
tree-returns-in-Int t c = record {
  judged = tree-Int (env_of c.args.env.now) (before_of c.args.before.now) c.args.e.now c.in-Int.value c.in-Int.unsigned c.in-Int.is ∙ ap fine (sym c.integer_expression.ensures);
  counted = sym (after-Int (before_of c.args.before.now) c.args.e.now c.in-Int.value c.in-Int.unsigned c.in-Int.is);
  kept = refl;
}

pub tree-returns-in-Char : goal.tree-returns-in-Char
tree-returns-in-Char t c = record {
  judged = tree-Char (env_of c.args.env.now) (before_of c.args.before.now) c.args.e.now c.in-Char.c c.in-Char.is ∙ ap (λ z. fine (typed_int z)) (sym (to_z-of_z w32 c.in-Char.c (search rules))) ∙ ap fine (sym c.typed_int.ensures);
  counted = sym (after-Char (before_of c.args.before.now) c.args.e.now c.in-Char.c c.in-Char.is);
  kept = refl;
}

pub tree-returns-in-Str : goal.tree-returns-in-Str
tree-returns-in-Str t c = record {
  judged = subst (AgreesWith typed_expression_of c.next_string.result) (ap (string_expression (env_of c.args.env.now) (before_of c.args.before.now) c.args.e.now.at) c.as_slice-in-Str.ensures ∙ sym (tree-Str (env_of c.args.env.now) (before_of c.args.before.now) c.args.e.now c.in-Str.bytes c.in-Str.is)) c.next_string.ensures.judged;
  counted = counted_as c.next_string.result (before_of c.next_string.new.before) (past (before_of c.args.before.now) 0 (c.as_slice-in-Str.result.now ∷ [])) (after (before_of c.args.before.now) (expr_of c.args.e.now)) c.next_string.ensures.counted (ap (λ w. past (before_of c.args.before.now) 0 (w ∷ [])) c.as_slice-in-Str.ensures ∙ sym (after-Str (before_of c.args.before.now) c.args.e.now c.in-Str.bytes c.in-Str.is));
  kept = same_ok c.next_string.result c.args.env.now;
}

pub tree-returns-in_err-items-in-Comma : goal.tree-returns-in_err-items-in-Comma
tree-returns-in_err-items-in-Comma t c = record {
  judged = fails_on typed_expression_of c.from_residual.result c.in_err-items-in-Comma.field-0.0 (tree (env_of c.args.env.now) (before_of c.args.before.now) (expr_of c.args.e.now)) (trees (env_of c.args.env.now) (before_of c.args.before.now) (exprs_of c.deref.result.now)) (λ gs. fine (comma_of gs)) c.from_residual.ensures (tree-Comma (env_of c.args.env.now) (before_of c.args.before.now) c.args.e.now c.in-Comma.es c.deref.result.now c.in-Comma.is c.deref.ensures.value) c.in_err-items-in-Comma.ensures.judged;
  counted = none_ok c.from_residual.result _ c.from_residual.ensures.0;
  kept = none_ok c.from_residual.result _ c.from_residual.ensures.0;
}

pub tree-returns-in_ok-items-in-Comma : goal.tree-returns-in_ok-items-in-Comma
tree-returns-in_ok-items-in-Comma t c = record {
  judged = on_ended typed_expression_of c.comma_given.result (tree (env_of c.args.env.now) (before_of c.args.before.now) (expr_of c.args.e.now)) (trees (env_of c.args.env.now) (before_of c.args.before.now) (exprs_of c.deref.result.now)) (trees (env_of c.args.env.now) (before_of c.args.before.now) (exprs_of c.deref.result.now)) (λ gs. fine (comma_of gs)) (map typed_expression_of c.in_ok-items-in-Comma.items.items) (fine (comma_of (map typed_expression_of c.in_ok-items-in-Comma.items.items))) (tree-Comma (env_of c.args.env.now) (before_of c.args.before.now) c.args.e.now c.in-Comma.es c.deref.result.now c.in-Comma.is c.deref.ensures.value) refl c.in_ok-items-in-Comma.ensures.judged refl c.comma_given.ensures;
  counted = on_ok c.comma_given.result _ (c.in_ok-items-in-Comma.ensures.counted ∙ sym (after-Comma (before_of c.args.before.now) c.args.e.now c.in-Comma.es c.deref.result.now c.in-Comma.is c.deref.ensures.value));
  kept = on_ok c.comma_given.result _ (c.in_ok-items-in-Comma.ensures.kept);
}

pub tree-returns-in_err-ctype-in-SizeofType : goal.tree-returns-in_err-ctype-in-SizeofType
tree-returns-in_err-ctype-in-SizeofType t c = record {
  judged = fails_on typed_expression_of c.from_residual-in_err-ctype-in-SizeofType.result c.in_err-ctype-in-SizeofType.field-0.0 (tree (env_of c.args.env.now) (before_of c.args.before.now) (expr_of c.args.e.now)) (type_named (env_of c.args.env.now) (type_name_of c.in-SizeofType.name)) (size_of_type (env_of c.args.env.now) c.args.e.now.at (place_of_type (type_name_of c.in-SizeofType.name))) c.from_residual-in_err-ctype-in-SizeofType.ensures (tree-SizeofType (env_of c.args.env.now) (before_of c.args.before.now) c.args.e.now c.in-SizeofType.name c.in-SizeofType.is) c.in_err-ctype-in-SizeofType.ensures.judged;
  counted = none_ok c.from_residual-in_err-ctype-in-SizeofType.result _ c.from_residual-in_err-ctype-in-SizeofType.ensures.0;
  kept = none_ok c.from_residual-in_err-ctype-in-SizeofType.result _ c.from_residual-in_err-ctype-in-SizeofType.ensures.0;
}

pub tree-returns-in_ok-ctype-in-SizeofType : goal.tree-returns-in_ok-ctype-in-SizeofType
tree-returns-in_ok-ctype-in-SizeofType t c = record {
  judged = on_ended typed_expression_of c.size_of_type.result (tree (env_of c.args.env.now) (before_of c.args.before.now) (expr_of c.args.e.now)) (type_named (env_of c.args.env.now) (type_name_of c.in-SizeofType.name)) (type_named (env_of c.args.env.now) (type_name_of c.in-SizeofType.name)) (size_of_type (env_of c.args.env.now) c.args.e.now.at (place_of_type (type_name_of c.in-SizeofType.name))) (ctype_of c.in_ok-ctype-in-SizeofType.ctype) (size_of_type (env_of c.type_named.new.env) c.args.e.now.at (out-TypeName c.in-SizeofType.name).at (ctype_of c.in_ok-ctype-in-SizeofType.ctype)) (tree-SizeofType (env_of c.args.env.now) (before_of c.args.before.now) c.args.e.now c.in-SizeofType.name c.in-SizeofType.is) refl c.in_ok-ctype-in-SizeofType.ensures.judged (λ i. size_of_type (env_of (c.in_ok-ctype-in-SizeofType.ensures.kept i)) c.args.e.now.at (sym (type_place c.in-SizeofType.name) i) (ctype_of c.in_ok-ctype-in-SizeofType.ctype)) c.size_of_type.ensures;
  counted = on_ok c.size_of_type.result _ (sym (after-SizeofType (before_of c.args.before.now) c.args.e.now c.in-SizeofType.name c.in-SizeofType.is));
  kept = on_ok c.size_of_type.result _ (c.in_ok-ctype-in-SizeofType.ensures.kept);
}

pub tree-returns-in_err-given-in-Cast : goal.tree-returns-in_err-given-in-Cast
tree-returns-in_err-given-in-Cast t c = record {
  judged = raised typed_expression_of _ c.from_residual-in_err-given-in-Cast.result c.in_err-given-in-Cast.field-0.0 c.from_residual-in_err-given-in-Cast.ensures (subst (λ r. Names c.in_err-given-in-Cast.field-0.0 (faults r)) (sym (tree-Cast (env_of c.args.env.now) (before_of c.args.before.now) c.args.e.now c.in-Cast.name c.in-Cast.a c.deref-in-Cast.result.now c.in-Cast.is c.deref-in-Cast.ensures)) (operand_fails c.in_err-given-in-Cast.field-0.0 (is_void_pointer (type_name_of c.in-Cast.name)) c.args.e.now.at (type_named (env_of c.args.env.now) (type_name_of c.in-Cast.name)) (value (env_of c.args.env.now) (before_of c.args.before.now) (expr_of c.deref-in-Cast.result.now)) c.in_err-given-in-Cast.ensures.judged));
  counted = none_ok c.from_residual-in_err-given-in-Cast.result _ c.from_residual-in_err-given-in-Cast.ensures.0;
  kept = none_ok c.from_residual-in_err-given-in-Cast.result _ c.from_residual-in_err-given-in-Cast.ensures.0;
}

pub tree-returns-then-is_void_pointer : goal.tree-returns-then-is_void_pointer
tree-returns-then-is_void_pointer t c = record {
  judged = let w : is_void_pointer (type_name_of c.in-Cast.name) ≡ true = sym c.if-is_void_pointer.ensures in on_ended typed_expression_of c.null_cast.result (tree (env_of c.args.env.now) (before_of c.args.before.now) (expr_of c.args.e.now)) (value (env_of c.args.env.now) (before_of c.args.before.now) (expr_of c.deref-in-Cast.result.now)) (value (env_of c.args.env.now) (before_of c.args.before.now) (expr_of c.deref-in-Cast.result.now)) (null_cast c.args.e.now.at) (typed_expression_of c.in_ok-given-in-Cast.given) (null_cast c.args.e.now.at (typed_expression_of c.in_ok-given-in-Cast.given)) (tree-Cast (env_of c.args.env.now) (before_of c.args.before.now) c.args.e.now c.in-Cast.name c.in-Cast.a c.deref-in-Cast.result.now c.in-Cast.is c.deref-in-Cast.ensures ∙ ap (λ b. cast_rule b c.args.e.now.at (type_named (env_of c.args.env.now) (type_name_of c.in-Cast.name)) (value (env_of c.args.env.now) (before_of c.args.before.now) (expr_of c.deref-in-Cast.result.now))) w) refl c.in_ok-given-in-Cast.ensures.judged refl c.null_cast.ensures;
  counted = on_ok c.null_cast.result _ (c.in_ok-given-in-Cast.ensures.counted ∙ sym (after-Cast (before_of c.args.before.now) c.args.e.now c.in-Cast.name c.in-Cast.a c.deref-in-Cast.result.now c.in-Cast.is c.deref-in-Cast.ensures));
  kept = on_ok c.null_cast.result _ (c.in_ok-given-in-Cast.ensures.kept);
}

pub tree-returns-in_err-ctype-in-Cast : goal.tree-returns-in_err-ctype-in-Cast
tree-returns-in_err-ctype-in-Cast t c = record {
  judged = let w : is_void_pointer (type_name_of c.in-Cast.name) ≡ false = sym c.if-is_void_pointer.ensures in raised typed_expression_of _ c.from_residual-in_err-ctype-in-Cast.result c.in_err-ctype-in-Cast.field-0.0 c.from_residual-in_err-ctype-in-Cast.ensures (named_first c.in_err-ctype-in-Cast.field-0.0 (tree (env_of c.args.env.now) (before_of c.args.before.now) (expr_of c.args.e.now)) (type_named (env_of c.args.env.now) (type_name_of c.in-Cast.name)) (type_named (env_of c.value.new.env) (type_name_of c.in-Cast.name)) (value (env_of c.args.env.now) (before_of c.args.before.now) (expr_of c.deref-in-Cast.result.now)) (cast_of c.args.e.now.at) (tree-Cast (env_of c.args.env.now) (before_of c.args.before.now) c.args.e.now c.in-Cast.name c.in-Cast.a c.deref-in-Cast.result.now c.in-Cast.is c.deref-in-Cast.ensures ∙ ap (λ b. cast_rule b c.args.e.now.at (type_named (env_of c.args.env.now) (type_name_of c.in-Cast.name)) (value (env_of c.args.env.now) (before_of c.args.before.now) (expr_of c.deref-in-Cast.result.now))) w) (λ i. type_named (env_of (c.in_ok-given-in-Cast.ensures.kept i)) (type_name_of c.in-Cast.name)) c.in_err-ctype-in-Cast.ensures.judged);
  counted = none_ok c.from_residual-in_err-ctype-in-Cast.result _ c.from_residual-in_err-ctype-in-Cast.ensures.0;
  kept = none_ok c.from_residual-in_err-ctype-in-Cast.result _ c.from_residual-in_err-ctype-in-Cast.ensures.0;
}

pub tree-returns-in_ok-ctype-in-Cast : goal.tree-returns-in_ok-ctype-in-Cast
tree-returns-in_ok-ctype-in-Cast t c = record {
  judged = let w : is_void_pointer (type_name_of c.in-Cast.name) ≡ false = sym c.if-is_void_pointer.ensures in two_ended typed_expression_of c.cast_of.result (tree (env_of c.args.env.now) (before_of c.args.before.now) (expr_of c.args.e.now)) (type_named (env_of c.args.env.now) (type_name_of c.in-Cast.name)) (type_named (env_of c.value.new.env) (type_name_of c.in-Cast.name)) (value (env_of c.args.env.now) (before_of c.args.before.now) (expr_of c.deref-in-Cast.result.now)) (value (env_of c.args.env.now) (before_of c.args.before.now) (expr_of c.deref-in-Cast.result.now)) (cast_of c.args.e.now.at) (ctype_of c.in_ok-ctype-in-Cast.ctype) (typed_expression_of c.in_ok-given-in-Cast.given) (cast_of c.args.e.now.at (ctype_of c.in_ok-ctype-in-Cast.ctype) (typed_expression_of c.in_ok-given-in-Cast.given)) (tree-Cast (env_of c.args.env.now) (before_of c.args.before.now) c.args.e.now c.in-Cast.name c.in-Cast.a c.deref-in-Cast.result.now c.in-Cast.is c.deref-in-Cast.ensures ∙ ap (λ b. cast_rule b c.args.e.now.at (type_named (env_of c.args.env.now) (type_name_of c.in-Cast.name)) (value (env_of c.args.env.now) (before_of c.args.before.now) (expr_of c.deref-in-Cast.result.now))) w) (λ i. type_named (env_of (c.in_ok-given-in-Cast.ensures.kept i)) (type_name_of c.in-Cast.name)) c.in_ok-ctype-in-Cast.ensures.judged refl c.in_ok-given-in-Cast.ensures.judged refl c.cast_of.ensures;
  counted = on_ok c.cast_of.result _ (c.in_ok-given-in-Cast.ensures.counted ∙ sym (after-Cast (before_of c.args.before.now) c.args.e.now c.in-Cast.name c.in-Cast.a c.deref-in-Cast.result.now c.in-Cast.is c.deref-in-Cast.ensures));
  kept = on_ok c.cast_of.result _ (c.in_ok-ctype-in-Cast.ensures.kept ∙ c.in_ok-given-in-Cast.ensures.kept);
}

pub tree-returns-in_err-callee-in-Call : goal.tree-returns-in_err-callee-in-Call
tree-returns-in_err-callee-in-Call t c = record {
  judged = fails_first_of typed_expression_of c.from_residual-in_err-callee-in-Call.result c.in_err-callee-in-Call.field-0.0 (tree (env_of c.args.env.now) (before_of c.args.before.now) (expr_of c.args.e.now)) (callee (env_of c.args.env.now) c.args.e.now.at (expr_of c.deref-in-Call.result.now) (value (env_of c.args.env.now) (before_of c.args.before.now) (expr_of c.deref-in-Call.result.now))) (site_of (env_of c.args.env.now) ((before_of c.args.before.now).sites + calls (expr_of c.deref-in-Call.result.now)) c.args.e.now.at) (trees (env_of c.args.env.now) (after_designator (before_of c.args.before.now) (expr_of c.deref-in-Call.result.now)) (exprs_of c.in-Call.es.items)) (called c.args.e.now.at) c.from_residual-in_err-callee-in-Call.ensures (tree-Call (env_of c.args.env.now) (before_of c.args.before.now) c.args.e.now c.in-Call.designator c.in-Call.es c.deref-in-Call.result.now c.in-Call.es.items c.in-Call.is c.deref-in-Call.ensures refl) c.in_err-callee-in-Call.ensures.judged;
  counted = none_ok c.from_residual-in_err-callee-in-Call.result _ c.from_residual-in_err-callee-in-Call.ensures.0;
  kept = none_ok c.from_residual-in_err-callee-in-Call.result _ c.from_residual-in_err-callee-in-Call.ensures.0;
}

pub tree-returns-in_err-site-in-Call : goal.tree-returns-in_err-site-in-Call
tree-returns-in_err-site-in-Call t c = record {
  judged = fails_second_of typed_expression_of c.from_residual-in_err-site-in-Call.result c.in_err-site-in-Call.field-0.0 (tree (env_of c.args.env.now) (before_of c.args.before.now) (expr_of c.args.e.now)) (callee (env_of c.args.env.now) c.args.e.now.at (expr_of c.deref-in-Call.result.now) (value (env_of c.args.env.now) (before_of c.args.before.now) (expr_of c.deref-in-Call.result.now))) (site_of (env_of c.args.env.now) ((before_of c.args.before.now).sites + calls (expr_of c.deref-in-Call.result.now)) c.args.e.now.at) (site_of (env_of c.designated.new.env) (before_of c.designated.new.before).sites c.args.e.now.at) (trees (env_of c.args.env.now) (after_designator (before_of c.args.before.now) (expr_of c.deref-in-Call.result.now)) (exprs_of c.in-Call.es.items)) (called c.args.e.now.at) c.from_residual-in_err-site-in-Call.ensures (tree-Call (env_of c.args.env.now) (before_of c.args.before.now) c.args.e.now c.in-Call.designator c.in-Call.es c.deref-in-Call.result.now c.in-Call.es.items c.in-Call.is c.deref-in-Call.ensures refl) (λ i. site_of (env_of (c.in_ok-callee-in-Call.ensures.kept i)) ((c.in_ok-callee-in-Call.ensures.counted i).sites) c.args.e.now.at) c.in_err-site-in-Call.ensures.judged;
  counted = none_ok c.from_residual-in_err-site-in-Call.result _ c.from_residual-in_err-site-in-Call.ensures.0;
  kept = none_ok c.from_residual-in_err-site-in-Call.result _ c.from_residual-in_err-site-in-Call.ensures.0;
}

pub tree-returns-in_err-arguments-in-Call : goal.tree-returns-in_err-arguments-in-Call
tree-returns-in_err-arguments-in-Call t c = record {
  judged = fails_third_of typed_expression_of c.from_residual-in_err-arguments-in-Call.result c.in_err-arguments-in-Call.field-0.0 (tree (env_of c.args.env.now) (before_of c.args.before.now) (expr_of c.args.e.now)) (callee (env_of c.args.env.now) c.args.e.now.at (expr_of c.deref-in-Call.result.now) (value (env_of c.args.env.now) (before_of c.args.before.now) (expr_of c.deref-in-Call.result.now))) (site_of (env_of c.args.env.now) ((before_of c.args.before.now).sites + calls (expr_of c.deref-in-Call.result.now)) c.args.e.now.at) (trees (env_of c.args.env.now) (after_designator (before_of c.args.before.now) (expr_of c.deref-in-Call.result.now)) (exprs_of c.deref-in-Call-2.result.now)) (trees (env_of c.designated.new.env) (before_of c.next_site.new.before) (exprs_of c.deref-in-Call-2.result.now)) (called c.args.e.now.at) c.from_residual-in_err-arguments-in-Call.ensures (tree-Call (env_of c.args.env.now) (before_of c.args.before.now) c.args.e.now c.in-Call.designator c.in-Call.es c.deref-in-Call.result.now c.deref-in-Call-2.result.now c.in-Call.is c.deref-in-Call.ensures c.deref-in-Call-2.ensures.value) (λ i. trees (env_of (c.in_ok-callee-in-Call.ensures.kept i)) (((c.in_ok-site-in-Call.ensures.counted ∙ ap (λ b. past b 1 []) c.in_ok-callee-in-Call.ensures.counted) ∙ past_designator (before_of c.args.before.now) c.deref-in-Call.result.now) i) (exprs_of c.deref-in-Call-2.result.now)) c.in_err-arguments-in-Call.ensures.judged;
  counted = none_ok c.from_residual-in_err-arguments-in-Call.result _ c.from_residual-in_err-arguments-in-Call.ensures.0;
  kept = none_ok c.from_residual-in_err-arguments-in-Call.result _ c.from_residual-in_err-arguments-in-Call.ensures.0;
}

pub tree-returns-in_ok-arguments-in-Call : goal.tree-returns-in_ok-arguments-in-Call
tree-returns-in_ok-arguments-in-Call t c = record {
  judged = three_ended typed_expression_of c.called.result (tree (env_of c.args.env.now) (before_of c.args.before.now) (expr_of c.args.e.now)) (callee (env_of c.args.env.now) c.args.e.now.at (expr_of c.deref-in-Call.result.now) (value (env_of c.args.env.now) (before_of c.args.before.now) (expr_of c.deref-in-Call.result.now))) (callee (env_of c.args.env.now) c.args.e.now.at (expr_of c.deref-in-Call.result.now) (value (env_of c.args.env.now) (before_of c.args.before.now) (expr_of c.deref-in-Call.result.now))) (site_of (env_of c.args.env.now) ((before_of c.args.before.now).sites + calls (expr_of c.deref-in-Call.result.now)) c.args.e.now.at) (site_of (env_of c.designated.new.env) (before_of c.designated.new.before).sites c.args.e.now.at) (trees (env_of c.args.env.now) (after_designator (before_of c.args.before.now) (expr_of c.deref-in-Call.result.now)) (exprs_of c.deref-in-Call-2.result.now)) (trees (env_of c.designated.new.env) (before_of c.next_site.new.before) (exprs_of c.deref-in-Call-2.result.now)) (called c.args.e.now.at) (callee_of c.in_ok-callee-in-Call.callee) c.in_ok-site-in-Call.site (map typed_expression_of c.in_ok-arguments-in-Call.arguments.items) (called c.args.e.now.at (callee_of c.in_ok-callee-in-Call.callee) c.in_ok-site-in-Call.site (map typed_expression_of c.in_ok-arguments-in-Call.arguments.items)) (tree-Call (env_of c.args.env.now) (before_of c.args.before.now) c.args.e.now c.in-Call.designator c.in-Call.es c.deref-in-Call.result.now c.deref-in-Call-2.result.now c.in-Call.is c.deref-in-Call.ensures c.deref-in-Call-2.ensures.value) refl c.in_ok-callee-in-Call.ensures.judged (λ i. site_of (env_of (c.in_ok-callee-in-Call.ensures.kept i)) ((c.in_ok-callee-in-Call.ensures.counted i).sites) c.args.e.now.at) c.in_ok-site-in-Call.ensures.judged (λ i. trees (env_of (c.in_ok-callee-in-Call.ensures.kept i)) (((c.in_ok-site-in-Call.ensures.counted ∙ ap (λ b. past b 1 []) c.in_ok-callee-in-Call.ensures.counted) ∙ past_designator (before_of c.args.before.now) c.deref-in-Call.result.now) i) (exprs_of c.deref-in-Call-2.result.now)) c.in_ok-arguments-in-Call.ensures.judged refl c.called.ensures;
  counted = on_ok c.called.result _ (c.in_ok-arguments-in-Call.ensures.counted ∙ ap (λ b. past b (calls_of_all (exprs_of c.deref-in-Call-2.result.now)) (strings_of_all (exprs_of c.deref-in-Call-2.result.now))) (c.in_ok-site-in-Call.ensures.counted ∙ ap (λ b. past b 1 []) c.in_ok-callee-in-Call.ensures.counted) ∙ sym (after-Call (before_of c.args.before.now) c.args.e.now c.in-Call.designator c.in-Call.es c.deref-in-Call.result.now c.deref-in-Call-2.result.now c.in-Call.is c.deref-in-Call.ensures c.deref-in-Call-2.ensures.value));
  kept = on_ok c.called.result _ (c.in_ok-arguments-in-Call.ensures.kept ∙ c.in_ok-callee-in-Call.ensures.kept);
}

pub tree-returns-in_err-given-in-Member : goal.tree-returns-in_err-given-in-Member
tree-returns-in_err-given-in-Member t c = record {
  judged = fails_on typed_expression_of c.from_residual-in_err-given-in-Member.result c.in_err-given-in-Member.field-0.0 (tree (env_of c.args.env.now) (before_of c.args.before.now) (expr_of c.args.e.now)) (tree (env_of c.args.env.now) (before_of c.args.before.now) (expr_of c.deref-in-Member.result.now)) (one_rule (env_of c.args.env.now) (expr_of c.args.e.now) (place_of (expr_of c.deref-in-Member.result.now))) c.from_residual-in_err-given-in-Member.ensures (tree_of_one (env_of c.args.env.now) (before_of c.args.before.now) c.args.e.now c.in-Member.a c.deref-in-Member.result.now c.in-Member.is c.deref-in-Member.ensures) c.in_err-given-in-Member.ensures.judged;
  counted = none_ok c.from_residual-in_err-given-in-Member.result _ c.from_residual-in_err-given-in-Member.ensures.0;
  kept = none_ok c.from_residual-in_err-given-in-Member.result _ c.from_residual-in_err-given-in-Member.ensures.0;
}

pub tree-returns-in_ok-given-in-Member : goal.tree-returns-in_ok-given-in-Member
tree-returns-in_ok-given-in-Member t c = record {
  judged = on_ended typed_expression_of c.one_given.result (tree (env_of c.args.env.now) (before_of c.args.before.now) (expr_of c.args.e.now)) (tree (env_of c.args.env.now) (before_of c.args.before.now) (expr_of c.deref-in-Member.result.now)) (tree (env_of c.args.env.now) (before_of c.args.before.now) (expr_of c.deref-in-Member.result.now)) (one_rule (env_of c.args.env.now) (expr_of c.args.e.now) (place_of (expr_of c.deref-in-Member.result.now))) (typed_expression_of c.in_ok-given-in-Member.given) (one_rule (env_of c.tree.new.env) (expr_of c.args.e.now) c.deref-in-Member-2.result.now.at (typed_expression_of c.in_ok-given-in-Member.given)) (tree_of_one (env_of c.args.env.now) (before_of c.args.before.now) c.args.e.now c.in-Member.a c.deref-in-Member.result.now c.in-Member.is c.deref-in-Member.ensures) refl c.in_ok-given-in-Member.ensures.judged (λ i. one_rule (env_of (c.in_ok-given-in-Member.ensures.kept i)) (expr_of c.args.e.now) (box_place c.in-Member.a c.deref-in-Member.result.now c.deref-in-Member-2.result.now c.deref-in-Member.ensures c.deref-in-Member-2.ensures i) (typed_expression_of c.in_ok-given-in-Member.given)) c.one_given.ensures;
  counted = on_ok c.one_given.result _ (c.in_ok-given-in-Member.ensures.counted ∙ sym (after_one (before_of c.args.before.now) c.args.e.now c.in-Member.a c.deref-in-Member.result.now c.in-Member.is c.deref-in-Member.ensures));
  kept = on_ok c.one_given.result _ c.in_ok-given-in-Member.ensures.kept;
}

pub tree-returns-in_err-given-in-SizeofExpr : goal.tree-returns-in_err-given-in-SizeofExpr
tree-returns-in_err-given-in-SizeofExpr t c = record {
  judged = fails_on typed_expression_of c.from_residual-in_err-given-in-SizeofExpr.result c.in_err-given-in-SizeofExpr.field-0.0 (tree (env_of c.args.env.now) (before_of c.args.before.now) (expr_of c.args.e.now)) (tree (in_context (env_of c.args.env.now) sized) nothing_before (expr_of c.deref-in-SizeofExpr.result.now)) (size_of_expression (env_of c.args.env.now) c.args.e.now.at) c.from_residual-in_err-given-in-SizeofExpr.ensures (tree-SizeofExpr (env_of c.args.env.now) (before_of c.args.before.now) c.args.e.now c.in-SizeofExpr.a c.deref-in-SizeofExpr.result.now c.in-SizeofExpr.is c.deref-in-SizeofExpr.ensures) c.in_err-given-in-SizeofExpr.ensures.judged;
  counted = none_ok c.from_residual-in_err-given-in-SizeofExpr.result _ c.from_residual-in_err-given-in-SizeofExpr.ensures.0;
  kept = none_ok c.from_residual-in_err-given-in-SizeofExpr.result _ c.from_residual-in_err-given-in-SizeofExpr.ensures.0;
}

pub tree-returns-in_ok-given-in-SizeofExpr : goal.tree-returns-in_ok-given-in-SizeofExpr
tree-returns-in_ok-given-in-SizeofExpr t c = record {
  judged = on_ended typed_expression_of c.size_of_expression.result (tree (env_of c.args.env.now) (before_of c.args.before.now) (expr_of c.args.e.now)) (tree (in_context (env_of c.args.env.now) sized) nothing_before (expr_of c.deref-in-SizeofExpr.result.now)) (tree (in_context (env_of c.args.env.now) sized) nothing_before (expr_of c.deref-in-SizeofExpr.result.now)) (size_of_expression (env_of c.args.env.now) c.args.e.now.at) (typed_expression_of c.in_ok-given-in-SizeofExpr.given) (size_of_expression (env_of c.unevaluated.new.env) c.args.e.now.at (typed_expression_of c.in_ok-given-in-SizeofExpr.given)) (tree-SizeofExpr (env_of c.args.env.now) (before_of c.args.before.now) c.args.e.now c.in-SizeofExpr.a c.deref-in-SizeofExpr.result.now c.in-SizeofExpr.is c.deref-in-SizeofExpr.ensures) refl c.in_ok-given-in-SizeofExpr.ensures.judged (λ i. size_of_expression (env_of (c.in_ok-given-in-SizeofExpr.ensures.kept i)) c.args.e.now.at (typed_expression_of c.in_ok-given-in-SizeofExpr.given)) c.size_of_expression.ensures;
  counted = on_ok c.size_of_expression.result _ (sym (after-SizeofExpr (before_of c.args.before.now) c.args.e.now c.in-SizeofExpr.a c.in-SizeofExpr.is));
  kept = on_ok c.size_of_expression.result _ (c.in_ok-given-in-SizeofExpr.ensures.kept);
}

pub tree-returns-in_err-left-in-Index : goal.tree-returns-in_err-left-in-Index
tree-returns-in_err-left-in-Index t c = record {
  judged = fails_first typed_expression_of c.from_residual-in_err-left-in-Index.result c.in_err-left-in-Index.field-0.0 (tree (env_of c.args.env.now) (before_of c.args.before.now) (expr_of c.args.e.now)) (on (tree (env_of c.args.env.now) (before_of c.args.before.now) (expr_of c.deref-in-Index.result.now)) (first_rule (env_of c.args.env.now) (expr_of c.args.e.now) (place_of (expr_of c.deref-in-Index.result.now)))) (value (env_of c.args.env.now) (after (before_of c.args.before.now) (expr_of c.deref-in-Index.result.now)) (expr_of c.in-Index.b.value)) (two_rule (env_of c.args.env.now) (expr_of c.args.e.now)) c.from_residual-in_err-left-in-Index.ensures (tree_of_two (env_of c.args.env.now) (before_of c.args.before.now) c.args.e.now c.in-Index.a c.in-Index.b c.deref-in-Index.result.now c.in-Index.b.value c.in-Index.is c.deref-in-Index.ensures refl) c.in_err-left-in-Index.ensures.judged;
  counted = none_ok c.from_residual-in_err-left-in-Index.result _ c.from_residual-in_err-left-in-Index.ensures.0;
  kept = none_ok c.from_residual-in_err-left-in-Index.result _ c.from_residual-in_err-left-in-Index.ensures.0;
}

pub tree-returns-in_err-right-in-Index : goal.tree-returns-in_err-right-in-Index
tree-returns-in_err-right-in-Index t c = record {
  judged = fails_second typed_expression_of c.from_residual-in_err-right-in-Index.result c.in_err-right-in-Index.field-0.0 (tree (env_of c.args.env.now) (before_of c.args.before.now) (expr_of c.args.e.now)) (on (tree (env_of c.args.env.now) (before_of c.args.before.now) (expr_of c.deref-in-Index.result.now)) (first_rule (env_of c.args.env.now) (expr_of c.args.e.now) (place_of (expr_of c.deref-in-Index.result.now)))) (value (env_of c.args.env.now) (after (before_of c.args.before.now) (expr_of c.deref-in-Index.result.now)) (expr_of c.deref-in-Index-2.result.now)) (value (env_of c.operand.new.env) (before_of c.operand.new.before) (expr_of c.deref-in-Index-2.result.now)) (two_rule (env_of c.args.env.now) (expr_of c.args.e.now)) c.from_residual-in_err-right-in-Index.ensures (tree_of_two (env_of c.args.env.now) (before_of c.args.before.now) c.args.e.now c.in-Index.a c.in-Index.b c.deref-in-Index.result.now c.deref-in-Index-2.result.now c.in-Index.is c.deref-in-Index.ensures c.deref-in-Index-2.ensures) (λ i. value (env_of (c.in_ok-left-in-Index.ensures.kept i)) (c.in_ok-left-in-Index.ensures.counted i) (expr_of c.deref-in-Index-2.result.now)) c.in_err-right-in-Index.ensures.judged;
  counted = none_ok c.from_residual-in_err-right-in-Index.result _ c.from_residual-in_err-right-in-Index.ensures.0;
  kept = none_ok c.from_residual-in_err-right-in-Index.result _ c.from_residual-in_err-right-in-Index.ensures.0;
}

pub tree-returns-in_ok-right-in-Index : goal.tree-returns-in_ok-right-in-Index
tree-returns-in_ok-right-in-Index t c = record {
  judged = two_ended typed_expression_of c.two_given.result (tree (env_of c.args.env.now) (before_of c.args.before.now) (expr_of c.args.e.now)) (on (tree (env_of c.args.env.now) (before_of c.args.before.now) (expr_of c.deref-in-Index.result.now)) (first_rule (env_of c.args.env.now) (expr_of c.args.e.now) (place_of (expr_of c.deref-in-Index.result.now)))) (on (tree (env_of c.args.env.now) (before_of c.args.before.now) (expr_of c.deref-in-Index.result.now)) (first_rule (env_of c.args.env.now) (expr_of c.args.e.now) (place_of (expr_of c.deref-in-Index.result.now)))) (value (env_of c.args.env.now) (after (before_of c.args.before.now) (expr_of c.deref-in-Index.result.now)) (expr_of c.deref-in-Index-2.result.now)) (value (env_of c.operand.new.env) (before_of c.operand.new.before) (expr_of c.deref-in-Index-2.result.now)) (two_rule (env_of c.args.env.now) (expr_of c.args.e.now)) (typed_expression_of c.in_ok-left-in-Index.left) (typed_expression_of c.in_ok-right-in-Index.right) (two_rule (env_of c.value-in-Index.new.env) (expr_of c.args.e.now) (typed_expression_of c.in_ok-left-in-Index.left) (typed_expression_of c.in_ok-right-in-Index.right)) (tree_of_two (env_of c.args.env.now) (before_of c.args.before.now) c.args.e.now c.in-Index.a c.in-Index.b c.deref-in-Index.result.now c.deref-in-Index-2.result.now c.in-Index.is c.deref-in-Index.ensures c.deref-in-Index-2.ensures) refl c.in_ok-left-in-Index.ensures.judged (λ i. value (env_of (c.in_ok-left-in-Index.ensures.kept i)) (c.in_ok-left-in-Index.ensures.counted i) (expr_of c.deref-in-Index-2.result.now)) c.in_ok-right-in-Index.ensures.judged (λ i. two_rule (env_of ((c.in_ok-right-in-Index.ensures.kept ∙ c.in_ok-left-in-Index.ensures.kept) i)) (expr_of c.args.e.now) (typed_expression_of c.in_ok-left-in-Index.left) (typed_expression_of c.in_ok-right-in-Index.right)) c.two_given.ensures;
  counted = on_ok c.two_given.result _ (c.in_ok-right-in-Index.ensures.counted ∙ ap (λ b. after b (expr_of c.deref-in-Index-2.result.now)) c.in_ok-left-in-Index.ensures.counted ∙ sym (after_two (before_of c.args.before.now) c.args.e.now c.in-Index.a c.in-Index.b c.deref-in-Index.result.now c.deref-in-Index-2.result.now c.in-Index.is c.deref-in-Index.ensures c.deref-in-Index-2.ensures));
  kept = on_ok c.two_given.result _ (c.in_ok-right-in-Index.ensures.kept ∙ c.in_ok-left-in-Index.ensures.kept);
}

pub tree-returns-in_err-test-in-Cond : goal.tree-returns-in_err-test-in-Cond
tree-returns-in_err-test-in-Cond t c = record {
  judged = fails_first_of typed_expression_of c.from_residual-in_err-test-in-Cond.result c.in_err-test-in-Cond.field-0.0 (tree (env_of c.args.env.now) (before_of c.args.before.now) (expr_of c.args.e.now)) (value (env_of c.args.env.now) (before_of c.args.before.now) (expr_of c.deref-in-Cond.result.now)) (value (env_of c.args.env.now) (after (before_of c.args.before.now) (expr_of c.deref-in-Cond.result.now)) (expr_of c.in-Cond.a.value)) (value (env_of c.args.env.now) (after (after (before_of c.args.before.now) (expr_of c.deref-in-Cond.result.now)) (expr_of c.in-Cond.a.value)) (expr_of c.in-Cond.b.value)) (choice c.args.e.now.at) c.from_residual-in_err-test-in-Cond.ensures (tree-Cond (env_of c.args.env.now) (before_of c.args.before.now) c.args.e.now c.in-Cond.c c.in-Cond.a c.in-Cond.b c.deref-in-Cond.result.now c.in-Cond.a.value c.in-Cond.b.value c.in-Cond.is c.deref-in-Cond.ensures refl refl) c.in_err-test-in-Cond.ensures.judged;
  counted = none_ok c.from_residual-in_err-test-in-Cond.result _ c.from_residual-in_err-test-in-Cond.ensures.0;
  kept = none_ok c.from_residual-in_err-test-in-Cond.result _ c.from_residual-in_err-test-in-Cond.ensures.0;
}

pub tree-returns-in_err-left-in-Cond : goal.tree-returns-in_err-left-in-Cond
tree-returns-in_err-left-in-Cond t c = record {
  judged = fails_second_of typed_expression_of c.from_residual-in_err-left-in-Cond.result c.in_err-left-in-Cond.field-0.0 (tree (env_of c.args.env.now) (before_of c.args.before.now) (expr_of c.args.e.now)) (value (env_of c.args.env.now) (before_of c.args.before.now) (expr_of c.deref-in-Cond.result.now)) (value (env_of c.args.env.now) (after (before_of c.args.before.now) (expr_of c.deref-in-Cond.result.now)) (expr_of c.deref-in-Cond-2.result.now)) (value (env_of c.value-in-Cond.new.env) (before_of c.value-in-Cond.new.before) (expr_of c.deref-in-Cond-2.result.now)) (value (env_of c.args.env.now) (after (after (before_of c.args.before.now) (expr_of c.deref-in-Cond.result.now)) (expr_of c.deref-in-Cond-2.result.now)) (expr_of c.in-Cond.b.value)) (choice c.args.e.now.at) c.from_residual-in_err-left-in-Cond.ensures (tree-Cond (env_of c.args.env.now) (before_of c.args.before.now) c.args.e.now c.in-Cond.c c.in-Cond.a c.in-Cond.b c.deref-in-Cond.result.now c.deref-in-Cond-2.result.now c.in-Cond.b.value c.in-Cond.is c.deref-in-Cond.ensures c.deref-in-Cond-2.ensures refl) (λ i. value (env_of (c.in_ok-test-in-Cond.ensures.kept i)) (c.in_ok-test-in-Cond.ensures.counted i) (expr_of c.deref-in-Cond-2.result.now)) c.in_err-left-in-Cond.ensures.judged;
  counted = none_ok c.from_residual-in_err-left-in-Cond.result _ c.from_residual-in_err-left-in-Cond.ensures.0;
  kept = none_ok c.from_residual-in_err-left-in-Cond.result _ c.from_residual-in_err-left-in-Cond.ensures.0;
}

pub tree-returns-in_err-right-in-Cond : goal.tree-returns-in_err-right-in-Cond
tree-returns-in_err-right-in-Cond t c = record {
  judged = fails_third_of typed_expression_of c.from_residual-in_err-right-in-Cond.result c.in_err-right-in-Cond.field-0.0 (tree (env_of c.args.env.now) (before_of c.args.before.now) (expr_of c.args.e.now)) (value (env_of c.args.env.now) (before_of c.args.before.now) (expr_of c.deref-in-Cond.result.now)) (value (env_of c.args.env.now) (after (before_of c.args.before.now) (expr_of c.deref-in-Cond.result.now)) (expr_of c.deref-in-Cond-2.result.now)) (value (env_of c.args.env.now) (after (after (before_of c.args.before.now) (expr_of c.deref-in-Cond.result.now)) (expr_of c.deref-in-Cond-2.result.now)) (expr_of c.deref-in-Cond-3.result.now)) (value (env_of c.value-in-Cond-2.new.env) (before_of c.value-in-Cond-2.new.before) (expr_of c.deref-in-Cond-3.result.now)) (choice c.args.e.now.at) c.from_residual-in_err-right-in-Cond.ensures (tree-Cond (env_of c.args.env.now) (before_of c.args.before.now) c.args.e.now c.in-Cond.c c.in-Cond.a c.in-Cond.b c.deref-in-Cond.result.now c.deref-in-Cond-2.result.now c.deref-in-Cond-3.result.now c.in-Cond.is c.deref-in-Cond.ensures c.deref-in-Cond-2.ensures c.deref-in-Cond-3.ensures) (λ i. value (env_of ((c.in_ok-left-in-Cond.ensures.kept ∙ c.in_ok-test-in-Cond.ensures.kept) i)) ((c.in_ok-left-in-Cond.ensures.counted ∙ ap (λ b. after b (expr_of c.deref-in-Cond-2.result.now)) c.in_ok-test-in-Cond.ensures.counted) i) (expr_of c.deref-in-Cond-3.result.now)) c.in_err-right-in-Cond.ensures.judged;
  counted = none_ok c.from_residual-in_err-right-in-Cond.result _ c.from_residual-in_err-right-in-Cond.ensures.0;
  kept = none_ok c.from_residual-in_err-right-in-Cond.result _ c.from_residual-in_err-right-in-Cond.ensures.0;
}

pub tree-returns-in_ok-right-in-Cond : goal.tree-returns-in_ok-right-in-Cond
tree-returns-in_ok-right-in-Cond t c = record {
  judged = three_ended typed_expression_of c.choice.result (tree (env_of c.args.env.now) (before_of c.args.before.now) (expr_of c.args.e.now)) (value (env_of c.args.env.now) (before_of c.args.before.now) (expr_of c.deref-in-Cond.result.now)) (value (env_of c.args.env.now) (before_of c.args.before.now) (expr_of c.deref-in-Cond.result.now)) (value (env_of c.args.env.now) (after (before_of c.args.before.now) (expr_of c.deref-in-Cond.result.now)) (expr_of c.deref-in-Cond-2.result.now)) (value (env_of c.value-in-Cond.new.env) (before_of c.value-in-Cond.new.before) (expr_of c.deref-in-Cond-2.result.now)) (value (env_of c.args.env.now) (after (after (before_of c.args.before.now) (expr_of c.deref-in-Cond.result.now)) (expr_of c.deref-in-Cond-2.result.now)) (expr_of c.deref-in-Cond-3.result.now)) (value (env_of c.value-in-Cond-2.new.env) (before_of c.value-in-Cond-2.new.before) (expr_of c.deref-in-Cond-3.result.now)) (choice c.args.e.now.at) (typed_expression_of c.in_ok-test-in-Cond.test) (typed_expression_of c.in_ok-left-in-Cond.left) (typed_expression_of c.in_ok-right-in-Cond.right) (choice c.args.e.now.at (typed_expression_of c.in_ok-test-in-Cond.test) (typed_expression_of c.in_ok-left-in-Cond.left) (typed_expression_of c.in_ok-right-in-Cond.right)) (tree-Cond (env_of c.args.env.now) (before_of c.args.before.now) c.args.e.now c.in-Cond.c c.in-Cond.a c.in-Cond.b c.deref-in-Cond.result.now c.deref-in-Cond-2.result.now c.deref-in-Cond-3.result.now c.in-Cond.is c.deref-in-Cond.ensures c.deref-in-Cond-2.ensures c.deref-in-Cond-3.ensures) refl c.in_ok-test-in-Cond.ensures.judged (λ i. value (env_of (c.in_ok-test-in-Cond.ensures.kept i)) (c.in_ok-test-in-Cond.ensures.counted i) (expr_of c.deref-in-Cond-2.result.now)) c.in_ok-left-in-Cond.ensures.judged (λ i. value (env_of ((c.in_ok-left-in-Cond.ensures.kept ∙ c.in_ok-test-in-Cond.ensures.kept) i)) ((c.in_ok-left-in-Cond.ensures.counted ∙ ap (λ b. after b (expr_of c.deref-in-Cond-2.result.now)) c.in_ok-test-in-Cond.ensures.counted) i) (expr_of c.deref-in-Cond-3.result.now)) c.in_ok-right-in-Cond.ensures.judged refl c.choice.ensures;
  counted = on_ok c.choice.result _ (c.in_ok-right-in-Cond.ensures.counted ∙ ap (λ b. after b (expr_of c.deref-in-Cond-3.result.now)) (c.in_ok-left-in-Cond.ensures.counted ∙ ap (λ b. after b (expr_of c.deref-in-Cond-2.result.now)) c.in_ok-test-in-Cond.ensures.counted) ∙ sym (after-Cond (before_of c.args.before.now) c.args.e.now c.in-Cond.c c.in-Cond.a c.in-Cond.b c.deref-in-Cond.result.now c.deref-in-Cond-2.result.now c.deref-in-Cond-3.result.now c.in-Cond.is c.deref-in-Cond.ensures c.deref-in-Cond-2.ensures c.deref-in-Cond-3.ensures));
  kept = on_ok c.choice.result _ (c.in_ok-right-in-Cond.ensures.kept ∙ c.in_ok-left-in-Cond.ensures.kept ∙ c.in_ok-test-in-Cond.ensures.kept);
}

pub value-returns-in_err-given : goal.value-returns-in_err-given
value-returns-in_err-given t c = record {
  judged = fails_on typed_expression_of c.from_residual.result c.in_err-given.field-0.0 (value (env_of c.args.env.now) (before_of c.args.before.now) (expr_of c.args.e.now)) (tree (env_of c.args.env.now) (before_of c.args.before.now) (expr_of c.args.e.now)) (valued (env_of c.args.env.now) (place_of (expr_of c.args.e.now))) c.from_residual.ensures refl c.in_err-given.ensures.judged;
  counted = none_ok c.from_residual.result _ c.from_residual.ensures.0;
  kept = none_ok c.from_residual.result _ c.from_residual.ensures.0;
}

pub value-returns : goal.value-returns
value-returns t c = record {
  judged = on_ended typed_expression_of c.valued.result (value (env_of c.args.env.now) (before_of c.args.before.now) (expr_of c.args.e.now)) (tree (env_of c.args.env.now) (before_of c.args.before.now) (expr_of c.args.e.now)) (tree (env_of c.args.env.now) (before_of c.args.before.now) (expr_of c.args.e.now)) (valued (env_of c.args.env.now) (place_of (expr_of c.args.e.now))) (typed_expression_of c.in_ok-given.given) (valued (env_of c.tree.new.env) c.args.e.now.at (typed_expression_of c.in_ok-given.given)) refl refl c.in_ok-given.ensures.judged (λ i. valued (env_of (c.in_ok-given.ensures.kept i)) (sym (place_is c.args.e.now.at c.args.e.now.kind) i) (typed_expression_of c.in_ok-given.given)) c.valued.ensures;
  counted = on_ok c.valued.result _ (c.in_ok-given.ensures.counted);
  kept = on_ok c.valued.result _ (c.in_ok-given.ensures.kept);
}

pub operand-returns-in_err-given : goal.operand-returns-in_err-given
operand-returns-in_err-given t c = record {
  judged = fails_on typed_expression_of c.from_residual.result c.in_err-given.field-0.0 (on (tree (env_of c.args.env.now) (before_of c.args.before.now) (expr_of c.args.e.now)) (first_rule (env_of c.args.env.now) (expr_of c.args.form.now) (place_of (expr_of c.args.e.now)))) (tree (env_of c.args.env.now) (before_of c.args.before.now) (expr_of c.args.e.now)) (first_rule (env_of c.args.env.now) (expr_of c.args.form.now) (place_of (expr_of c.args.e.now))) c.from_residual.ensures refl c.in_err-given.ensures.judged;
  counted = none_ok c.from_residual.result _ c.from_residual.ensures.0;
  kept = none_ok c.from_residual.result _ c.from_residual.ensures.0;
}

pub operand-returns : goal.operand-returns
operand-returns t c = record {
  judged = on_ended typed_expression_of c.first_given.result (on (tree (env_of c.args.env.now) (before_of c.args.before.now) (expr_of c.args.e.now)) (first_rule (env_of c.args.env.now) (expr_of c.args.form.now) (place_of (expr_of c.args.e.now)))) (tree (env_of c.args.env.now) (before_of c.args.before.now) (expr_of c.args.e.now)) (tree (env_of c.args.env.now) (before_of c.args.before.now) (expr_of c.args.e.now)) (first_rule (env_of c.args.env.now) (expr_of c.args.form.now) (place_of (expr_of c.args.e.now))) (typed_expression_of c.in_ok-given.given) (first_rule (env_of c.tree.new.env) (expr_of c.args.form.now) c.args.e.now.at (typed_expression_of c.in_ok-given.given)) refl refl c.in_ok-given.ensures.judged (λ i. first_rule (env_of (c.in_ok-given.ensures.kept i)) (expr_of c.args.form.now) (sym (place_is c.args.e.now.at c.args.e.now.kind) i) (typed_expression_of c.in_ok-given.given)) c.first_given.ensures;
  counted = on_ok c.first_given.result _ c.in_ok-given.ensures.counted;
  kept = on_ok c.first_given.result _ c.in_ok-given.ensures.kept;
}

pub unevaluated-returns : goal.unevaluated-returns
unevaluated-returns t c = record {
  judged = subst (λ b. AgreesWith typed_expression_of c.tree-given.result (tree (in_context (env_of c.args.env.now) sized) b (expr_of c.args.e.now))) c.nothing_before-before.ensures c.tree-given.ensures.judged;
  kept = on_ok_weaker c.tree-given.result (λ q. ap (λ v. (λ (w : Environment). record w { context = c.args.env.now.context }) v) q) c.tree-given.ensures.kept;
}

pub folded_value-returns : goal.folded_value-returns
folded_value-returns t c = record {
  judged = subst (λ b. AgreesWith typed_expression_of c.value-given.result (value (in_context (env_of c.args.env.now) folded) b (expr_of c.args.e.now))) c.nothing_before-before.ensures c.value-given.ensures.judged;
  kept = on_ok_weaker c.value-given.result (λ q. ap (λ v. (λ (w : Environment). record w { context = c.args.env.now.context }) v) q) c.value-given.ensures.kept;
}

pub values-returns-in_err-one : goal.values-returns-in_err-one
values-returns-in_err-one t c = record {
  judged = raised (λ v. map typed_expression_of v.items) _ c.from_residual.result c.in_err-one.field-0.0 c.from_residual.ensures (value_fails c.in_err-one.field-0.0 (env_of c.loop-e.env) (before_of c.loop-e.before) c.args.es.now c.loop-e.e-index c.e-item.result (map typed_expression_of c.loop-e.given.items) (trees (env_of c.args.env.now) (before_of c.args.before.now) (exprs_of c.args.es.now)) c.loop-e-test.true c.e-item.is c.loop-e.invariant.found c.in_err-one.ensures.judged);
  counted = none_ok c.from_residual.result _ c.from_residual.ensures.0;
  kept = none_ok c.from_residual.result _ c.from_residual.ensures.0;
}

pub values-loop-e-preserved : goal.values-loop-e-preserved
values-loop-e-preserved t c =
    record {
      found = value_more (env_of c.loop-e.env) (env_of c.value.new.env) (before_of c.loop-e.before) (before_of c.value.new.before) c.args.es.now c.loop-e.e-index c.e-item.result c.loop-e.given.items c.in_ok-one.one (trees (env_of c.args.env.now) (before_of c.args.before.now) (exprs_of c.args.es.now)) c.loop-e-test.true c.e-item.is c.loop-e.invariant.found c.in_ok-one.ensures.judged (ap env_of c.in_ok-one.ensures.kept) c.in_ok-one.ensures.counted ∙ ap (λ l. onto_givens (map typed_expression_of l) (trees (env_of c.value.new.env) (before_of c.value.new.before) (exprs_of (drop (c.loop-e.e-index + 1) c.args.es.now)))) (sym c.in_ok-push.ensures.items);
      counted = counted_more (past (before_of c.args.before.now) (calls_of_all (exprs_of c.args.es.now)) (strings_of_all (exprs_of c.args.es.now))) (before_of c.loop-e.before) (before_of c.value.new.before) c.args.es.now c.loop-e.e-index c.e-item.result c.loop-e-test.true c.e-item.is c.loop-e.invariant.counted c.in_ok-one.ensures.counted;
      kept = c.in_ok-one.ensures.kept ∙ c.loop-e.invariant.kept;
    }

pub values-returns : goal.values-returns
values-returns t c = record {
  judged = c.loop-e.invariant.found ∙ (at_drop_all (λ l. onto_givens (map typed_expression_of c.loop-e.given.items) (trees (env_of c.loop-e.env) (before_of c.loop-e.before) (exprs_of l))) c.args.es.now c.loop-e.e-index c.loop-e-test.false ∙ ap fine (append-nil (map typed_expression_of c.loop-e.given.items)));
  counted = sym (c.loop-e.invariant.counted ∙ (at_drop_all (λ l. past (before_of c.loop-e.before) (calls_of_all (exprs_of l)) (strings_of_all (exprs_of l))) c.args.es.now c.loop-e.e-index c.loop-e-test.false ∙ past_none (before_of c.loop-e.before)));
  kept = c.loop-e.invariant.kept;
}

pub values-loop-e-init : goal.values-loop-e-init
values-loop-e-init t c =
    record { found = values_begin (trees (env_of c.args.env.now) (before_of c.args.before.now) (exprs_of c.args.es.now)) ∙ ap (λ l. onto_givens (map typed_expression_of l) (trees (env_of c.args.env.now) (before_of c.args.before.now) (exprs_of c.args.es.now))) (sym c.new-given.ensures.items); counted = refl; kept = refl }

pub designated-returns-in-Some : goal.designated-returns-in-Some
designated-returns-in-Some t c = record {
  judged = c.in-Some.ensures.judged (value (env_of c.args.env.now) (before_of c.args.before.now) (expr_of c.args.designator.now));
  counted = on_ok c.in-Some.found _ (sym (c.in-Some.ensures.counted (before_of c.args.before.now)));
  kept = same_ok c.in-Some.found c.args.env.now;
}

pub designated-returns-in_err-given-in-None : goal.designated-returns-in_err-given-in-None
designated-returns-in_err-given-in-None t c = record {
  judged = fails_on callee_of c.from_residual.result c.in_err-given-in-None.field-0.0 (callee (env_of c.args.env.now) c.args.at (expr_of c.args.designator.now) (value (env_of c.args.env.now) (before_of c.args.before.now) (expr_of c.args.designator.now))) (value (env_of c.args.env.now) (before_of c.args.before.now) (expr_of c.args.designator.now)) (callee_by_value c.args.at) c.from_residual.ensures (c.in-None.ensures.through (value (env_of c.args.env.now) (before_of c.args.before.now) (expr_of c.args.designator.now))) c.in_err-given-in-None.ensures.judged;
  counted = none_ok c.from_residual.result _ c.from_residual.ensures.0;
  kept = none_ok c.from_residual.result _ c.from_residual.ensures.0;
}

pub designated-returns-in_ok-given-in-None : goal.designated-returns-in_ok-given-in-None
designated-returns-in_ok-given-in-None t c = record {
  judged = on_ended callee_of c.callee_by_value.result (callee (env_of c.args.env.now) c.args.at (expr_of c.args.designator.now) (value (env_of c.args.env.now) (before_of c.args.before.now) (expr_of c.args.designator.now))) (value (env_of c.args.env.now) (before_of c.args.before.now) (expr_of c.args.designator.now)) (value (env_of c.args.env.now) (before_of c.args.before.now) (expr_of c.args.designator.now)) (callee_by_value c.args.at) (typed_expression_of c.in_ok-given-in-None.given) (callee_by_value c.args.at (typed_expression_of c.in_ok-given-in-None.given)) (c.in-None.ensures.through (value (env_of c.args.env.now) (before_of c.args.before.now) (expr_of c.args.designator.now))) refl c.in_ok-given-in-None.ensures.judged refl c.callee_by_value.ensures;
  counted = on_ok c.callee_by_value.result _ (c.in_ok-given-in-None.ensures.counted);
  kept = on_ok c.callee_by_value.result _ (c.in_ok-given-in-None.ensures.kept);
}

pub type_named-returns : goal.type_named-returns
type_named-returns t c = record {
  judged = subst (AgreesWith ctype_of c.type_specified.result) (ap (type_named (env_of c.args.env.now)) (sym (type_name_is c.args.name.now))) c.type_specified.ensures.judged;
  kept = c.type_specified.ensures.kept;
}

pub type_specified-returns-in_err-ctype : goal.type_specified-returns-in_err-ctype
type_specified-returns-in_err-ctype t c = record {
  judged = fails_on ctype_of c.from_residual.result c.in_err-ctype.field-0.0 (on (type_of_spec (env_of c.args.env.now) c.args.at (spec_of c.args.spec.now)) (declared (env_of c.args.env.now) (declarator_in c.args.declarator.now))) (type_of_spec (env_of c.args.env.now) c.args.at (spec_of c.args.spec.now)) (declared (env_of c.args.env.now) (declarator_in c.args.declarator.now)) c.from_residual.ensures refl c.in_err-ctype.ensures;
  kept = none_ok c.from_residual.result _ c.from_residual.ensures.0;
}

pub type_specified-returns-in-Some : goal.type_specified-returns-in-Some
type_specified-returns-in-Some t c = record {
  judged = on_ended ctype_of c.declared.result (on (type_of_spec (env_of c.args.env.now) c.args.at (spec_of c.args.spec.now)) (declared (env_of c.args.env.now) (declarator_in c.args.declarator.now))) (type_of_spec (env_of c.args.env.now) c.args.at (spec_of c.args.spec.now)) (type_of_spec (env_of c.args.env.now) c.args.at (spec_of c.args.spec.now)) (declared (env_of c.args.env.now) (declarator_in c.args.declarator.now)) (ctype_of c.in_ok-ctype.ctype) (declared (env_of c.args.env.now) (declarator_of c.in-Some.d) (ctype_of c.in_ok-ctype.ctype)) refl refl c.in_ok-ctype.ensures (ap (λ o. declared (env_of c.args.env.now) (declarator_in o) (ctype_of c.in_ok-ctype.ctype)) (sym c.in-Some.is)) c.declared.ensures.judged;
  kept = c.declared.ensures.kept;
}

pub type_specified-returns-in-None : goal.type_specified-returns-in-None
type_specified-returns-in-None t c = record {
  judged = ap (λ o. on (type_of_spec (env_of c.args.env.now) c.args.at (spec_of c.args.spec.now)) (declared (env_of c.args.env.now) (declarator_in o))) c.in-None.is ∙ ap (λ r. on r (λ u. fine u)) c.in_ok-ctype.ensures;
  kept = refl;
}

pub declared-returns-in-Name : goal.declared-returns-in-Name
declared-returns-in-Name t c = record {
  judged = declared-Name (env_of c.args.env.now) c.args.d.now (ctype_of c.args.ctype) c.in-Name.field-0 c.in-Name.is;
  kept = refl;
}

pub declared-returns-in_err-pointer-in-Pointer : goal.declared-returns-in_err-pointer-in-Pointer
declared-returns-in_err-pointer-in-Pointer t c = record {
  judged = fails_on ctype_of c.from_residual.result c.in_err-pointer-in-Pointer.field-0.0 (declared (env_of c.args.env.now) (declarator_of c.args.d.now) (ctype_of c.args.ctype)) (pointer_to c.args.d.now.at (ctype_of c.args.ctype)) (λ u. declared (env_of c.args.env.now) (declarator_behind c.in-Pointer.inner) u) c.from_residual.ensures (declared-Pointer (env_of c.args.env.now) c.args.d.now (ctype_of c.args.ctype) c.in-Pointer.inner c.in-Pointer.is) c.in_err-pointer-in-Pointer.ensures;
  kept = none_ok c.from_residual.result _ c.from_residual.ensures.0;
}

pub declared-returns-in_ok-pointer-in-Pointer : goal.declared-returns-in_ok-pointer-in-Pointer
declared-returns-in_ok-pointer-in-Pointer t c = record {
  judged = on_ended ctype_of c.declared_inside.result (declared (env_of c.args.env.now) (declarator_of c.args.d.now) (ctype_of c.args.ctype)) (pointer_to c.args.d.now.at (ctype_of c.args.ctype)) (pointer_to c.args.d.now.at (ctype_of c.args.ctype)) (λ u. declared (env_of c.args.env.now) (declarator_behind c.in-Pointer.inner) u) (ctype_of c.in_ok-pointer-in-Pointer.pointer) (declared (env_of c.args.env.now) (declarator_behind c.in-Pointer.inner) (ctype_of c.in_ok-pointer-in-Pointer.pointer)) (declared-Pointer (env_of c.args.env.now) c.args.d.now (ctype_of c.args.ctype) c.in-Pointer.inner c.in-Pointer.is) refl c.in_ok-pointer-in-Pointer.ensures refl c.declared_inside.ensures.judged;
  kept = c.declared_inside.ensures.kept;
}

pub declared-returns-in_err-length-in-Array : goal.declared-returns-in_err-length-in-Array
declared-returns-in_err-length-in-Array t c = record {
  judged = fails_on ctype_of c.from_residual-in_err-length-in-Array.result c.in_err-length-in-Array.field-0.0 (declared (env_of c.args.env.now) (declarator_of c.args.d.now) (ctype_of c.args.ctype)) (on (size_in (env_of c.args.env.now) (expr_behind c.in-Array.size)) (array_of (env_of c.args.env.now) c.args.d.now.at (ctype_of c.args.ctype))) (λ u. declared (env_of c.args.env.now) (declarator_behind c.in-Array.inner) u) c.from_residual-in_err-length-in-Array.ensures (declared-Array (env_of c.args.env.now) c.args.d.now (ctype_of c.args.ctype) c.in-Array.inner c.in-Array.size c.in-Array.is) (names_on c.in_err-length-in-Array.field-0.0 (size_in (env_of c.args.env.now) (expr_behind c.in-Array.size)) (array_of (env_of c.args.env.now) c.args.d.now.at (ctype_of c.args.ctype)) c.in_err-length-in-Array.ensures.judged);
  kept = none_ok c.from_residual-in_err-length-in-Array.result _ c.from_residual-in_err-length-in-Array.ensures.0;
}

pub declared-returns-in_err-array-in-Array : goal.declared-returns-in_err-array-in-Array
declared-returns-in_err-array-in-Array t c = record {
  judged = raised ctype_of _ c.from_residual-in_err-array-in-Array.result c.in_err-array-in-Array.field-0.0 c.from_residual-in_err-array-in-Array.ensures (named_on c.in_err-array-in-Array.field-0.0 (declared (env_of c.args.env.now) (declarator_of c.args.d.now) (ctype_of c.args.ctype)) (on (size_in (env_of c.args.env.now) (expr_behind c.in-Array.size)) (array_of (env_of c.args.env.now) c.args.d.now.at (ctype_of c.args.ctype))) (array_of (env_of c.size_in.new.env) c.args.d.now.at (ctype_of c.args.ctype) c.in_ok-length-in-Array.length) (λ u. declared (env_of c.args.env.now) (declarator_behind c.in-Array.inner) u) (declared-Array (env_of c.args.env.now) c.args.d.now (ctype_of c.args.ctype) c.in-Array.inner c.in-Array.size c.in-Array.is) ((λ i. array_of (env_of (c.in_ok-length-in-Array.ensures.kept i)) c.args.d.now.at (ctype_of c.args.ctype) c.in_ok-length-in-Array.length) ∙ ap (λ r. on r (array_of (env_of c.args.env.now) c.args.d.now.at (ctype_of c.args.ctype))) (sym c.in_ok-length-in-Array.ensures.judged)) c.in_err-array-in-Array.ensures);
  kept = none_ok c.from_residual-in_err-array-in-Array.result _ c.from_residual-in_err-array-in-Array.ensures.0;
}

pub declared-returns-in_ok-array-in-Array : goal.declared-returns-in_ok-array-in-Array
declared-returns-in_ok-array-in-Array t c = record {
  judged = on_ended ctype_of c.declared_inside-in-Array.result (declared (env_of c.args.env.now) (declarator_of c.args.d.now) (ctype_of c.args.ctype)) (on (size_in (env_of c.args.env.now) (expr_behind c.in-Array.size)) (array_of (env_of c.args.env.now) c.args.d.now.at (ctype_of c.args.ctype))) (array_of (env_of c.size_in.new.env) c.args.d.now.at (ctype_of c.args.ctype) c.in_ok-length-in-Array.length) (λ u. declared (env_of c.args.env.now) (declarator_behind c.in-Array.inner) u) (ctype_of c.in_ok-array-in-Array.array) (declared (env_of c.size_in.new.env) (declarator_behind c.in-Array.inner) (ctype_of c.in_ok-array-in-Array.array)) (declared-Array (env_of c.args.env.now) c.args.d.now (ctype_of c.args.ctype) c.in-Array.inner c.in-Array.size c.in-Array.is) ((λ i. array_of (env_of (c.in_ok-length-in-Array.ensures.kept i)) c.args.d.now.at (ctype_of c.args.ctype) c.in_ok-length-in-Array.length) ∙ ap (λ r. on r (array_of (env_of c.args.env.now) c.args.d.now.at (ctype_of c.args.ctype))) (sym c.in_ok-length-in-Array.ensures.judged)) c.in_ok-array-in-Array.ensures (λ i. declared (env_of (c.in_ok-length-in-Array.ensures.kept i)) (declarator_behind c.in-Array.inner) (ctype_of c.in_ok-array-in-Array.array)) c.declared_inside-in-Array.ensures.judged;
  kept = kept_then c.declared_inside-in-Array.result c.declared_inside-in-Array.new.env c.size_in.new.env c.args.env.now c.declared_inside-in-Array.ensures.kept c.in_ok-length-in-Array.ensures.kept;
}

pub declared-returns-in_err-types-in-Function : goal.declared-returns-in_err-types-in-Function
declared-returns-in_err-types-in-Function t c = record {
  judged = fails_on ctype_of c.from_residual-in_err-types-in-Function.result c.in_err-types-in-Function.field-0.0 (declared (env_of c.args.env.now) (declarator_of c.args.d.now) (ctype_of c.args.ctype)) (on (parameters (inside (env_of c.args.env.now)) 0 (params_of c.deref.result.now)) (function_of c.args.d.now.at (ctype_of c.args.ctype))) (λ u. declared (env_of c.args.env.now) (declarator_behind c.in-Function.inner) u) c.from_residual-in_err-types-in-Function.ensures (declared-Function (env_of c.args.env.now) c.args.d.now (ctype_of c.args.ctype) c.in-Function.inner c.in-Function.params c.deref.result.now c.in-Function.is c.deref.ensures.value) (names_on c.in_err-types-in-Function.field-0.0 (parameters (inside (env_of c.args.env.now)) 0 (params_of c.deref.result.now)) (function_of c.args.d.now.at (ctype_of c.args.ctype)) c.in_err-types-in-Function.ensures.judged);
  kept = none_ok c.from_residual-in_err-types-in-Function.result _ c.from_residual-in_err-types-in-Function.ensures.0;
}

pub declared-returns-in_err-function-in-Function : goal.declared-returns-in_err-function-in-Function
declared-returns-in_err-function-in-Function t c = record {
  judged = raised ctype_of _ c.from_residual-in_err-function-in-Function.result c.in_err-function-in-Function.field-0.0 c.from_residual-in_err-function-in-Function.ensures (named_on c.in_err-function-in-Function.field-0.0 (declared (env_of c.args.env.now) (declarator_of c.args.d.now) (ctype_of c.args.ctype)) (on (parameters (inside (env_of c.args.env.now)) 0 (params_of c.deref.result.now)) (function_of c.args.d.now.at (ctype_of c.args.ctype))) (function_of c.args.d.now.at (ctype_of c.args.ctype) (types_of c.in_ok-types-in-Function.types.items)) (λ u. declared (env_of c.args.env.now) (declarator_behind c.in-Function.inner) u) (declared-Function (env_of c.args.env.now) c.args.d.now (ctype_of c.args.ctype) c.in-Function.inner c.in-Function.params c.deref.result.now c.in-Function.is c.deref.ensures.value) (ap (λ r. on r (function_of c.args.d.now.at (ctype_of c.args.ctype))) (sym c.in_ok-types-in-Function.ensures.judged)) c.in_err-function-in-Function.ensures);
  kept = none_ok c.from_residual-in_err-function-in-Function.result _ c.from_residual-in_err-function-in-Function.ensures.0;
}

pub declared-returns-in_ok-function-in-Function : goal.declared-returns-in_ok-function-in-Function
declared-returns-in_ok-function-in-Function t c = record {
  judged = on_ended ctype_of c.declared_inside-in-Function.result (declared (env_of c.args.env.now) (declarator_of c.args.d.now) (ctype_of c.args.ctype)) (on (parameters (inside (env_of c.args.env.now)) 0 (params_of c.deref.result.now)) (function_of c.args.d.now.at (ctype_of c.args.ctype))) (function_of c.args.d.now.at (ctype_of c.args.ctype) (types_of c.in_ok-types-in-Function.types.items)) (λ u. declared (env_of c.args.env.now) (declarator_behind c.in-Function.inner) u) (ctype_of c.in_ok-function-in-Function.function) (declared (env_of c.parameters_apart.new.env) (declarator_behind c.in-Function.inner) (ctype_of c.in_ok-function-in-Function.function)) (declared-Function (env_of c.args.env.now) c.args.d.now (ctype_of c.args.ctype) c.in-Function.inner c.in-Function.params c.deref.result.now c.in-Function.is c.deref.ensures.value) (ap (λ r. on r (function_of c.args.d.now.at (ctype_of c.args.ctype))) (sym c.in_ok-types-in-Function.ensures.judged)) c.in_ok-function-in-Function.ensures (λ i. declared (env_of (c.in_ok-types-in-Function.ensures.kept i)) (declarator_behind c.in-Function.inner) (ctype_of c.in_ok-function-in-Function.function)) c.declared_inside-in-Function.ensures.judged;
  kept = kept_then c.declared_inside-in-Function.result c.declared_inside-in-Function.new.env c.parameters_apart.new.env c.args.env.now c.declared_inside-in-Function.ensures.kept c.in_ok-types-in-Function.ensures.kept;
}

pub size_in-returns-in_err-given-in-Some : goal.size_in-returns-in_err-given-in-Some
size_in-returns-in_err-given-in-Some t c = record {
  judged = fails_on (λ n. n) c.from_residual.result c.in_err-given-in-Some.field-0.0 (size_in (env_of c.args.env.now) (expr_behind c.args.size.now)) (folded_value (env_of c.args.env.now) (expr_of c.deref.result.now)) (array_size (place_of (expr_of c.deref.result.now))) c.from_residual.ensures (ap (λ o. size_in (env_of c.args.env.now) (expr_behind o)) c.in-Some.is ∙ ap (λ y. on (folded_value (env_of c.args.env.now) (expr_of y)) (array_size (place_of (expr_of y)))) (sym c.deref.ensures)) c.in_err-given-in-Some.ensures.judged;
  kept = none_ok c.from_residual.result _ c.from_residual.ensures.0;
}

pub size_in-returns-in_ok-given-in-Some : goal.size_in-returns-in_ok-given-in-Some
size_in-returns-in_ok-given-in-Some t c = record {
  judged = on_ended (λ n. n) c.array_size.result (size_in (env_of c.args.env.now) (expr_behind c.args.size.now)) (folded_value (env_of c.args.env.now) (expr_of c.deref.result.now)) (folded_value (env_of c.args.env.now) (expr_of c.deref.result.now)) (array_size (place_of (expr_of c.deref.result.now))) (typed_expression_of c.in_ok-given-in-Some.given) (array_size c.deref-in-Some.result.now.at (typed_expression_of c.in_ok-given-in-Some.given)) (ap (λ o. size_in (env_of c.args.env.now) (expr_behind o)) c.in-Some.is ∙ ap (λ y. on (folded_value (env_of c.args.env.now) (expr_of y)) (array_size (place_of (expr_of y)))) (sym c.deref.ensures)) refl c.in_ok-given-in-Some.ensures.judged (λ i. array_size (box_place c.in-Some.e c.deref.result.now c.deref-in-Some.result.now c.deref.ensures c.deref-in-Some.ensures i) (typed_expression_of c.in_ok-given-in-Some.given)) c.array_size.ensures;
  kept = on_ok c.array_size.result _ (c.in_ok-given-in-Some.ensures.kept);
}

pub parameter_type-returns-in_err-ctype : goal.parameter_type-returns-in_err-ctype
parameter_type-returns-in_err-ctype t c = record {
  judged = fails_on ctype_of c.from_residual.result c.in_err-ctype.field-0.0 (type_of_param (env_of c.args.env.now) c.args.p.now) (on (type_of_spec (env_of c.args.env.now) (out-Param c.args.p.now).at (spec_of (out-Param c.args.p.now).spec)) (declared (env_of c.args.env.now) (declarator_in (out-Param c.args.p.now).declarator))) (parameter_of (place_or (out-Param c.args.p.now).at (declarator_in (out-Param c.args.p.now).declarator))) c.from_residual.ensures refl c.in_err-ctype.ensures.judged;
  kept = none_ok c.from_residual.result _ c.from_residual.ensures.0;
}

pub parameter_type-returns : goal.parameter_type-returns
parameter_type-returns t c = record {
  judged = on_ended ctype_of c.parameter_of.result (type_of_param (env_of c.args.env.now) c.args.p.now) (on (type_of_spec (env_of c.args.env.now) (out-Param c.args.p.now).at (spec_of (out-Param c.args.p.now).spec)) (declared (env_of c.args.env.now) (declarator_in (out-Param c.args.p.now).declarator))) (on (type_of_spec (env_of c.args.env.now) (out-Param c.args.p.now).at (spec_of (out-Param c.args.p.now).spec)) (declared (env_of c.args.env.now) (declarator_in (out-Param c.args.p.now).declarator))) (parameter_of (place_or (out-Param c.args.p.now).at (declarator_in (out-Param c.args.p.now).declarator))) (ctype_of c.in_ok-ctype.ctype) (parameter_of c.place_or.result (ctype_of c.in_ok-ctype.ctype)) refl refl c.in_ok-ctype.ensures.judged (λ i. parameter_of (c.place_or.ensures i) (ctype_of c.in_ok-ctype.ctype)) c.parameter_of.ensures;
  kept = on_ok c.parameter_of.result _ (c.in_ok-ctype.ensures.kept);
}

pub parameters-returns-in_err-ctype : goal.parameters-returns-in_err-ctype
parameters-returns-in_err-ctype t c = record {
  judged = raised (λ v. types_of v.items) _ c.from_residual.result c.in_err-ctype.field-0.0 c.from_residual.ensures (type_fails c.in_err-ctype.field-0.0 (env_of c.loop-p.env) c.args.params.now c.loop-p.p-index 0 c.p-item.result c.loop-p.types.items (parameters (env_of c.args.env.now) 0 (params_of c.args.params.now)) c.loop-p-test.true c.p-item.is c.loop-p.invariant.found c.in_err-ctype.ensures.judged);
  kept = none_ok c.from_residual.result _ c.from_residual.ensures.0;
}

pub parameters-returns-in_err-declare_parameter : goal.parameters-returns-in_err-declare_parameter
parameters-returns-in_err-declare_parameter t c = record {
  judged = raised (λ v. types_of v.items) _ c.from_residual-in_err-declare_parameter.result c.in_err-declare_parameter.field-0.0 c.from_residual-in_err-declare_parameter.ensures (name_fails c.in_err-declare_parameter.field-0.0 (env_of c.loop-p.env) c.args.params.now c.loop-p.p-index 0 c.p-item.result c.loop-p.types.items c.in_ok-ctype.ctype (parameters (env_of c.args.env.now) 0 (params_of c.args.params.now)) c.loop-p-test.true c.p-item.is c.loop-p.invariant.found c.in_ok-ctype.ensures.judged (subst (λ r. Names c.in_err-declare_parameter.field-0.0 (faults r)) (λ i. with_name_demands (env_of (c.in_ok-ctype.ensures.kept i)) (name_of_param c.p-item.result) (fine (ctype_of c.in_ok-ctype.ctype))) c.in_err-declare_parameter.ensures.judged));
  kept = none_ok c.from_residual-in_err-declare_parameter.result _ c.from_residual-in_err-declare_parameter.ensures.0;
}

pub parameters-loop-p-preserved : goal.parameters-loop-p-preserved
parameters-loop-p-preserved t c =
    record {
      found = parameter_more (env_of c.loop-p.env) (env_of c.declare_parameter.new.env) c.args.params.now c.loop-p.p-index 0 c.p-item.result c.loop-p.types.items c.in_ok-ctype.ctype (parameters (env_of c.args.env.now) 0 (params_of c.args.params.now)) c.loop-p-test.true c.p-item.is c.loop-p.invariant.found c.in_ok-ctype.ensures.judged (sym (λ i. with_name_demands (env_of (c.in_ok-ctype.ensures.kept i)) (name_of_param c.p-item.result) (fine (ctype_of c.in_ok-ctype.ctype))) ∙ c.in_ok-declare_parameter.ensures.judged) (c.in_ok-declare_parameter.ensures.meant ∙ (λ j. behind_parameter (env_of (c.in_ok-ctype.ensures.kept j)) 0 (name_of_param c.p-item.result) (fine (ctype_of c.in_ok-ctype.ctype)))) ∙ ap (λ l. onto_types l (parameters (env_of c.declare_parameter.new.env) 0 (params_of (drop (c.loop-p.p-index + 1) c.args.params.now)))) (sym c.in_ok-push.ensures.items);
      kept = declares_more c.args.env.now c.loop-p.env c.parameter_type.new.env c.declare_parameter.new.env c.loop-p.invariant.kept c.in_ok-ctype.ensures.kept c.in_ok-declare_parameter.ensures.kept;
    }

pub parameters-returns : goal.parameters-returns
parameters-returns t c = record {
  judged = c.loop-p.invariant.found ∙ (at_drop_all (λ l. onto_types c.loop-p.types.items (parameters (env_of c.loop-p.env) 0 (params_of l))) c.args.params.now c.loop-p.p-index c.loop-p-test.false ∙ ap fine (before_none c.loop-p.types.items));
  kept = c.loop-p.invariant.kept;
}

pub parameters-loop-p-init : goal.parameters-loop-p-init
parameters-loop-p-init t c =
    record { found = parameters_begin (parameters (env_of c.args.env.now) 0 (params_of c.args.params.now)) ∙ ap (λ l. onto_types l (parameters (env_of c.args.env.now) 0 (params_of c.args.params.now))) (sym c.new-types.ensures.items); kept = declares_none c.args.env.now }

pub parameters_apart-returns : goal.parameters_apart-returns
parameters_apart-returns t c = record {
  judged = subst (λ d. AgreesWith (λ v. types_of v.items) c.parameters-types.result (parameters ((λ (w : Env). record w { depth = d }) (env_of c.args.env.now)) 0 (params_of c.args.params.now))) (c.replace-outer.ensures.after ∙ c.in_ok-depth.ensures) c.parameters-types.ensures.judged;
  kept = on_ok_weaker c.parameters-types.result (λ q. left_again c.args.env.now c.parameters-types.new.env c.leave.new.self c.replace-outer.new.dest c.replace-outer.result c.replace-outer.ensures.value q (λ inner outer p h. c.leave.ensures inner outer p (h ∙ sym c.len-count.ensures))) c.parameters-types.ensures.kept;
}
