-- Names, constants and strings, and what isn't evaluated, give the same in both units: there is no call in their trees.
use Rattle.std.proofs.Common.{◌≡◌, ℕ, suc, ◌+◌, Bool, true, List, [], length, refl, ap, ap₂, sym, ◌∙◌}
use Rattle.c_tree.specs.Tree.{CType, Program}
use Rattle.c_rules.specs.Checked.{Checked, fine, faulty, on, gives}
use Rattle.c_rules.specs.Names.{Name}
use Rattle.c_rules.specs.Scopes.{Env, Meaning, a_static, a_function, unknown, Before, lookup}
use Rattle.c_rules.specs.TypedExpression.{Form, a_value, TypedExpression}
use Rattle.c_rules.specs.PrimaryExpressions.{used, object_number, function_value_number, meant, named_expression, integer_expression, string_fits, typed_string, string_expression}
use Rattle.c_rules.specs.UnaryExpressions.{size_of, size_of_expression, size_of_type}
use Rattle.null_calls_laws.specs.InstrumentedPrograms.{expr, kept}
use Rattle.null_calls_laws.specs.WithoutSites.{unsited}
use Rattle.c_rules_laws.specs.TypedAlike.{plain_scope, instrumented_scope, More}
use Rattle.c_rules_laws.proofs.Leads.{Leads}
use Rattle.c_rules_laws.proofs.Operators.{bound_holds}
use Rattle.null_calls_laws.specs.Remade.{inner_of, with_inner, remade, Follows}
use Rattle.null_calls_laws.specs.Counts.{Near}
use Rattle.c_rules.proofs.Integers.{integer_cases, size_holds}
pub use Rattle.c_rules.proofs.Below.{Holds, demand_holds}
pub use Rattle.c_rules_laws.proofs.Holding.{after_part, fine_same as same_fine}

same_inner : (f : Form) → with_inner f (inner_of f) ≡ f
same_inner (a_value e) = refl
same_inner f = refl

module _ (p : Program) where
  -- no call stands in the tree
  pub record IsLeaf (g : TypedExpression) : Type 0 where
    pub types : kept p true (inner_of g.form) ≡ []
    pub tree : (k : ℕ) → unsited (inner_of g.form) ≡ expr p k true (inner_of g.form)

  leaf_same : (g : TypedExpression) → g ≡ remade g (inner_of g.form)
  leaf_same g = ap (λ f. record { ctype = g.ctype; form = f; constant = g.constant }) (sym (same_inner g.form))

  pub leaf_follows : (k : ℕ) (r s : Checked TypedExpression) → Leads r s → Holds IsLeaf r → Follows p k [] r s
  leaf_follows k (fine g) s h l = (inner_of g.form, h.0 ∙ ap (λ x. fine x) (leaf_same g), record { types = l.types; tree = l.tree k; none = λ _. refl })
  leaf_follows k (faulty f fs) s h l = tt

  meant_leaf : (env : Env) (at : ℕ) (x : Name) (m : Meaning) → Holds IsLeaf (meant env at x m)
  meant_leaf env at x (a_static seen whole d) = after_part IsLeaf (used env.context at (object_number env x)) _ (λ n. record { types = refl; tree = λ k. refl })
  meant_leaf env at x (a_function t d) = after_part IsLeaf (function_value_number env at x) _ (λ n. record { types = refl; tree = λ k. refl })
  meant_leaf env at x (unknown f fs) = tt
  meant_leaf env at x m = record { types = refl; tree = λ k. refl }

  pub named_leaf : (env : Env) (at : ℕ) (x : Name) → Holds IsLeaf (named_expression env at x)
  named_leaf env at x = bound_holds IsLeaf env at x (lookup env.names x) (λ b _. meant_leaf env at x b.means)

  pub integer_leaf : (n : ℕ) (u : Bool) → IsLeaf (integer_expression n u)
  integer_leaf n u = integer_cases IsLeaf n u (λ _. record { types = refl; tree = λ k. refl }) (record { types = refl; tree = λ k. refl })

  pub string_leaf : (env : Env) (b : Before) (at : ℕ) (text : List ℕ) → Holds IsLeaf (string_expression env b at text)
  string_leaf env b at text = after_part IsLeaf (string_fits env.context at b.cells (suc (length text))) _ (λ _. record { types = refl; tree = λ k. refl })

  size_leaf : (env : Env) (at place : ℕ) (t : CType) → Holds IsLeaf (size_of env at place t)
  size_leaf env at place t = size_holds IsLeaf env at place t (λ _. record { types = refl; tree = λ k. refl })

  pub size_given_leaf : (env : Env) (at : ℕ) (r : Checked TypedExpression) → Holds IsLeaf (on r (size_of_expression env at))
  size_given_leaf env at r = after_part IsLeaf r (size_of_expression env at) (λ g. size_leaf env at at g.ctype)

  pub size_type_leaf : (env : Env) (at place : ℕ) (r : Checked CType) → Holds IsLeaf (on r (size_of_type env at place))
  size_type_leaf env at place r = after_part IsLeaf r (size_of_type env at place) (λ t. size_leaf env at place t)

-- strings have the same numbers in both units
pub string_same : (env : Env) (w : More) (b b' : Before) (at : ℕ) (text : List ℕ) → Near b b' → string_expression (instrumented_scope env w) b' at text ≡ string_expression (plain_scope env) b at text
string_same env w b b' at text n =
    ap₂ (λ ws c. gives (string_fits env.context at c (suc (length text))) (λ _. typed_string (length env.whole.objects + length ws) (length text))) n.strings n.cells
