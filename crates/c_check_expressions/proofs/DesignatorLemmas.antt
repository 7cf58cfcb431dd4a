-- Designators that are names, and all others.
use Rattle.std.proofs.Common.{◌≡◌, ℕ, Option, Some, None, refl, ap, ◌∙◌}
use Rattle.c_syntax.specs.declared.tree.Expr.{Expr as ExprTree}
use Rattle.c_syntax.specs.Tree.{Expr, a_name, an_int, a_char, a_str, comma, sizeof_type, cast, call, member, postfix, prefix, unary, index, binary, assign, conditional}
use Rattle.c_syntax.specs.View.{expr_of}
use Rattle.c_tree.specs.Tree.{CType}
use Rattle.c_rules.specs.Checked.{Checked, on}
use Rattle.c_rules.specs.Counts.{after, place_of}
use Rattle.c_rules.specs.Expressions.{callee, callee_meant, callee_bound}
use Rattle.c_rules.specs.TypedExpression.{TypedExpression}
use Rattle.c_rules.specs.Names.{Name}
use Rattle.c_rules.specs.PostfixExpressions.{callee_by_name, callee_by_value}
use Rattle.c_rules.specs.Scopes.{Env, Before, Binding, Meaning, a_static, a_local, a_function, an_enumerator, unknown, binding_of}
use Rattle.c_check_expressions.specs.Parts.{named_by, function_of_meaning, function_meant}
use Rattle.c_check_expressions.proofs.NodeLemmas.{past_none, place_is}

meaning_direct : (env : Env) (at place : ℕ) (x : Name) (r : Checked TypedExpression) (m : Meaning) (t : CType) → function_of_meaning m ≡ Some t → callee_meant env at place x r m ≡ callee_by_name env place x t
meaning_direct env at place x r (a_function u d) t h = ap (callee_by_name env place x) cc
meaning_direct env at place x r m t h = cc

meaning_through : (env : Env) (at place : ℕ) (x : Name) (r : Checked TypedExpression) (m : Meaning) → function_of_meaning m ≡ None → callee_meant env at place x r m ≡ on r (callee_by_value at)
meaning_through env at place x r (a_function u d) h = cc
meaning_through env at place x r m h = refl

bound_direct : (env : Env) (at place : ℕ) (x : Name) (r : Checked TypedExpression) (b : Option Binding) (t : CType) → function_meant b ≡ Some t → callee_bound env at place x r b ≡ callee_by_name env place x t
bound_direct env at place x r None t h = cc
bound_direct env at place x r (Some b) t h = meaning_direct env at place x r b.means t h

bound_through : (env : Env) (at place : ℕ) (x : Name) (r : Checked TypedExpression) (b : Option Binding) → function_meant b ≡ None → callee_bound env at place x r b ≡ on r (callee_by_value at)
bound_through env at place x r None h = refl
bound_through env at place x r (Some b) h = meaning_through env at place x r b.means h

-- what is called by a name
named_callee : (env : Env) (at : ℕ) (d : Expr) (r : Checked TypedExpression) (x : Name) → named_by d ≡ Some x → callee env at d r ≡ callee_bound env at (place_of d) x r (binding_of env x)
named_callee env at (a_name place y) r x h = let q : y ≡ x = cc in λ i. callee_bound env at place (q i) r (binding_of env (q i))
named_callee env at d r x h = cc

-- what is called by a value
pub unnamed_callee : (env : Env) (at : ℕ) (d : Expr) (r : Checked TypedExpression) → named_by d ≡ None → callee env at d r ≡ on r (callee_by_value at)
unnamed_callee env at (a_name place y) r h = cc
unnamed_callee env at d r h = refl

-- a name counts nothing
pub named_counts : (d : Expr) (x : Name) (b : Before) → named_by d ≡ Some x → after b d ≡ b
named_counts (a_name place y) x b h = past_none b
named_counts d x b h = cc

-- a function by its name
pub direct : (env : Env) (at : ℕ) (d : ExprTree) (r : Checked TypedExpression) (x : Name) (t : CType) → named_by (expr_of d) ≡ Some x → function_meant (binding_of env x) ≡ Some t → callee env at (expr_of d) r ≡ callee_by_name env d.at x t
direct env at d r x t h m =
    named_callee env at (expr_of d) r x h
    ∙ bound_direct env at (place_of (expr_of d)) x r (binding_of env x) t m
    ∙ ap (λ p. callee_by_name env p x t) (place_is d.at d.kind)

-- a name that means no function
pub indirect : (env : Env) (at : ℕ) (d : ExprTree) (r : Checked TypedExpression) (x : Name) → named_by (expr_of d) ≡ Some x → function_meant (binding_of env x) ≡ None → callee env at (expr_of d) r ≡ on r (callee_by_value at)
indirect env at d r x h m = named_callee env at (expr_of d) r x h ∙ bound_through env at (place_of (expr_of d)) x r (binding_of env x) m
