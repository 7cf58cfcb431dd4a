-- What the parts that the instrumenter adds to a call give.
use Rattle.std.proofs.Common.{◌≡◌, ℕ, ◌+◌, ◌<◌, Bool, true, false, length, None, Some, refl, ap, ap₂, ◌∙◌, arith}
use Rattle.std.proofs.lemmas.Bool.Decides.{Decides-ltb}
use Rattle.dm_base.specs.declared.mode.Mode.TheVariants.{Instrumented}
use Rattle.c_lexer.specs.declared.punctuator.TheConstants.{ASSIGN}
use Rattle.c_tree.specs.Tree.{CType, void, integer, pointer, no_types, more_types}
use Rattle.c_tree.specs.Tree as typed
use Rattle.c_tree.specs.Functions.{unsigned_int, of_one}
use Rattle.c_tree.specs.Operands.{IsScalar}
use Rattle.c_syntax.specs.Tree.{a_name, an_int, no_exprs, more_exprs}
use Rattle.c_rules.specs.Checked.{Checked, fine, demand, on, both, all_three}
use Rattle.c_rules.specs.Names.{Name, number_among, given_names}
use Rattle.c_rules.specs.Scopes.{Env, Meaning, a_function, lookup, Context, evaluated}
use Rattle.c_rules.specs.Counts.{after_designator}
use Rattle.c_rules.specs.TypedExpression.{not_constant, TypedExpression, typed_value, tree_of}
use Rattle.c_rules.specs.Conversions.{assigned}
use Rattle.c_rules.specs.PrimaryExpressions.{used, given_number, number_or, function_number, local_given, meant, bound, named_expression}
use Rattle.c_rules.specs.PostfixExpressions.{site_in, direct, callee_of_type, called}
use Rattle.c_rules.specs.Assignments.{assignment_by}
use Rattle.c_rules.specs.Expressions.{value_at, place_at, callee_meant, callee_bound, trees, value}
use Rattle.c_rules_laws.specs.TypedAlike.{More, instrumented_scope}
use Rattle.null_calls_laws.specs.Tabled.{IsNullCall}
use Rattle.null_calls_laws.specs.AddedParts.{IsTemporary, TemporariesAreRead, TemporariesAreSet, NullCallsAreMade}

-- ## Temporaries

module _ (env : Env) (w : More) where
  abbrev R : Env
  R = instrumented_scope env w

  temporary_named : (at : ℕ) (x : Name) (k : ℕ) (t : CType) → IsTemporary w x k t → named_expression R at x ≡ fine (local_given t t k)
  temporary_named at x k t h = ap (bound R at x) h.1 ∙ ap (meant R at x) h.2

  temporary_value : (at k : ℕ) (t : CType) → IsScalar t → value_at R at (fine (local_given t t k)) ≡ fine (typed_value t (typed.load t (typed.variable t false k)) not_constant)
  temporary_value at k (integer i) h = refl
  temporary_value at k (pointer t) h = refl
  temporary_value at k t h = absurd h

  temporary_place : (at k : ℕ) (t : CType) → IsScalar t → place_at at (fine (local_given t t k)) ≡ fine (local_given t t k)
  temporary_place at k (integer i) h = refl
  temporary_place at k (pointer t) h = refl
  temporary_place at k t h = absurd h

pub temporaries_are_read : TemporariesAreRead
temporaries_are_read env w b at x k t s h = ap (value_at (instrumented_scope env w) at) (temporary_named env w at x k t h) ∙ temporary_value env w at k t s

pub temporaries_are_set : TemporariesAreSet
temporaries_are_set env w b at x k t e g s h v f =
    ap₂ (λ r q. both r q (assignment_by (instrumented_scope env w) at ASSIGN)) (ap (place_at at) (temporary_named env w at x k t h) ∙ temporary_place env w at k t s) v
    ∙ ap (λ z. demand z 3 at (typed_value t (typed.assign t (typed.variable t false k) (tree_of (assigned t g))) not_constant)) f

-- ## Null calls

module _ (env : Env) (w : More) (at : ℕ) (x : Name) (i : ℕ) (none : number_among env.whole.functions x ≡ None) (given : number_among (given_names Instrumented) x ≡ Some i) where
  abbrev Scope : Env
  Scope = instrumented_scope env w

  numbered : function_number Scope x ≡ Some (length env.whole.functions + i)
  numbered = ap (λ o. number_or o (given_number Scope (number_among (given_names Instrumented) x))) none ∙ ap (given_number Scope) given

  by_function : (r : Checked TypedExpression) (m : Meaning) (d : Bool) → m ≡ a_function (of_one void unsigned_int) d → callee_meant Scope at at x r m ≡ fine (record { designator = direct (length env.whole.functions + i); returns = void; parameters = more_types unsigned_int no_types })
  by_function r m d e = ap (callee_meant Scope at at x r) e ∙ ap (λ o. on (used Scope.context at o) (callee_of_type at (of_one void unsigned_int))) numbered

  null_callee : (r : Checked TypedExpression) → IsNullCall w.names x → callee_bound Scope at at x r (lookup w.names x) ≡ fine (record { designator = direct (length env.whole.functions + i); returns = void; parameters = more_types unsigned_int no_types })
  null_callee r h = ap (callee_bound Scope at at x r) h.2 ∙ by_function r h.0.means h.1 h.3

pub null_site : (c : Context) (n m at : ℕ) → c ≡ evaluated → m ≡ n → n < 30000 → site_in c 30000 m at ≡ fine n
null_site c n m at e q l = ap₂ (λ c m. site_in c 30000 m at) e q ∙ ap (λ b. demand b 13 at n) ((Decides-ltb n 30000).1 l)

pub null_calls_are_made : NullCallsAreMade
null_calls_are_made env w b at x i site runs h none given l =
    let n : b.sites + 0 ≡ b.sites = omega arith in
    ap₂ (λ c s. all_three c s (trees (instrumented_scope env w) (after_designator b (a_name at x)) (more_exprs (an_int at site true) no_exprs)) (called at))
    (null_callee env w at x i none given (value (instrumented_scope env w) b (a_name at x)) h) (null_site env.context b.sites (b.sites + 0) at runs n l)
