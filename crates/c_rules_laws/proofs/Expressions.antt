-- What expressions, names of types and declarators give without their places.
use Rattle.std.proofs.Common.{◌≡◌, ℕ, suc, ◌+◌, Bool, true, false, ◌&&◌, List, [], ◌∷◌, ◌++◌, length, length-append, Option, Some, None, nat_eq, ◌∙◌, refl, sym, ap, ap₂, subst}
use Rattle.c_lexer.specs.declared.punctuator.TheConstants.{AMPERSAND}
use Rattle.c_tree.specs.declared.value.BinOp.TheVariants.{Add, Sub}
use Rattle.c_tree.specs.Tree.{CType, CTypes, no_types, more_types}
use Rattle.c_syntax.specs.Tree.{Spec, Expr, a_name, a_str, comma, sizeof_type, cast, call, member, postfix, prefix, unary, index, binary, assign, conditional, Exprs, no_exprs, more_exprs, Maybe, absent, there}
use Rattle.c_syntax.specs.Tree.{Postfix, post_increment, post_decrement, Prefix, pre_increment, pre_decrement, sizeof, Access, dot, arrow}
use Rattle.c_syntax.specs.Tree.{TypeName, type_name, Declarator, nothing, pointer, array, function, Params, no_params, more_params}
use Rattle.c_syntax.specs.Tree as syntax
use Rattle.c_syntax.specs.Same.{unplaced_spec, unplaced, unplaced_exprs, unplaced_maybe, unplaced_type, unplaced_declarator, unplaced_params}
use Rattle.c_rules.specs.Checked.{Checked, fine, on}
use Rattle.c_rules.specs.Names.{Name}
use Rattle.c_rules.specs.Scopes.{Env, Binding, Meaning, a_function, Before, nothing_before, sized, folded, in_context, inside, binding_of}
use Rattle.c_rules.specs.Counts.{place_of, calls, calls_of_all, strings, strings_of_all, past, after, after_designator}
use Rattle.c_rules.specs.PlacesOfCalls.{places, places_of_all}
use Rattle.c_rules.specs.Tags.{tags_of_spec, tags_of_expr, tags_of_exprs, tags_of_maybe, tags_of_type, tags_of_declarator, tags_of_params}
use Rattle.c_rules.specs.TypedExpression.{TypedExpression}
use Rattle.c_rules.specs.Conversions.{valued}
use Rattle.c_rules.specs.PostfixExpressions.{Callee, site_of, callee_by_value, called, member_of}
use Rattle.c_rules.specs.UnaryExpressions.{address, indirection, unary_of_value, size_of_expression, size_of_type, cast_of, null_cast}
use Rattle.c_rules.specs.BinaryExpressions.{sum, choice}
use Rattle.c_rules.specs.Assignments.{assignable, assignment_by, step, comma_of}
use Rattle.c_rules.specs.Declarators.{name_of, place_or, place_of_type, is_void_spec, is_bare_pointer, is_void_pointer, array_of, function_of, parameter_of, array_size, behind_parameter}
use Rattle.c_rules.specs.Expressions.{value_at, place_at, callee_meant, callee_bound, callee, access, after_operand, before_operand, unary_rule, infix_rule, cast_rule, tree, trees, type_named, declared, size_in, parameters, value, folded_value, type_declared, type_of_parameter}
use Rattle.c_rules_laws.proofs.Alike.{Alike, alike, on_alike, gives_alike, both_alike, joined_alike, three_alike, by_test}
use Rattle.c_rules_laws.proofs.Operators.{named_alike, string_alike, valued_alike, site_alike, callee_by_name_alike, callee_by_value_alike, called_alike, member_agrees, address_agrees, indirection_agrees, unary_agrees, size_alike, cast_alike, null_cast_alike, operation_agrees, infix_agrees, choice_agrees, assignable_alike, assignment_agrees, step_agrees}
use Rattle.c_rules_laws.proofs.Declared.{spec_alike, pointer_alike, array_alike, function_alike, parameter_alike, array_size_alike, with_name_alike, behind_parameter_same}

-- ## Counts

pub joins : {A : Type 0} {u v x y : List A} → u ≡ v → x ≡ y → u ++ x ≡ v ++ y
joins {A = A} e f = ap₂ (λ (v : List A) w. v ++ w) e f

pub long_both : {A : Type 0} {n m : ℕ} (xs ys : List A) → length xs ≡ n → length ys ≡ m → length (xs ++ ys) ≡ n + m
long_both xs ys e f = length-append xs ys ∙ ap₂ (λ v w. v + w) e f

counts_both : {A B : Type 0} {k l m n : ℕ} {v w x y : List A} {b c d e : List B} (xs ys : List ℕ) → (k ≡ l) × (v ≡ w) × (b ≡ c) × (length xs ≡ l) → (m ≡ n) × (x ≡ y) × (d ≡ e) × (length ys ≡ n)
    → (k + m ≡ l + n) × (v ++ x ≡ w ++ y) × (b ++ d ≡ c ++ e) × (length (xs ++ ys) ≡ l + n)
counts_both xs ys h g = (ap₂ (λ m n. m + n) h.0 g.0, joins h.1 g.1, joins h.2 g.2, long_both xs ys h.3 g.3)

pub spec_tags : (s : Spec) → tags_of_spec (unplaced_spec s) ≡ tags_of_spec s
spec_tags syntax.void = refl
spec_tags s = refl

-- calls, strings and tags; and as many call expressions stand in an expression as the rules count calls in it
mutual
  counts_same : (e : Expr) → (calls (unplaced e) ≡ calls e) × (strings (unplaced e) ≡ strings e) × (tags_of_expr (unplaced e) ≡ tags_of_expr e) × (length (places e) ≡ calls e)
  counts_same (comma at es) = all_counts_same es
  counts_same (sizeof_type at t) = (refl, refl, type_tags t, refl)
  counts_same (cast at t e) = (let h = counts_same e in (h.0, h.1, joins (type_tags t) h.2, h.3))
  counts_same (call at d es) = (let h = all_counts_same es in counts_both (places d) (at ∷ places_of_all es) (counts_same d) (ap suc h.0, h.1, h.2, ap suc h.3))
  counts_same (member at how e x) = counts_same e
  counts_same (postfix at op e) = counts_same e
  counts_same (prefix at pre_increment e) = counts_same e
  counts_same (prefix at pre_decrement e) = counts_same e
  counts_same (prefix at sizeof e) = (refl, refl, (counts_same e).2, refl)
  counts_same (unary at op e) = counts_same e
  counts_same (index at a b) = counts_both (places a) (places b) (counts_same a) (counts_same b)
  counts_same (binary at op a b) = counts_both (places a) (places b) (counts_same a) (counts_same b)
  counts_same (assign at op a b) = counts_both (places a) (places b) (counts_same a) (counts_same b)
  counts_same (conditional at c a b) = counts_both (places c) (places a ++ places b) (counts_same c) (counts_both (places a) (places b) (counts_same a) (counts_same b))
  counts_same e = (refl, refl, refl, refl)

  all_counts_same : (es : Exprs) → (calls_of_all (unplaced_exprs es) ≡ calls_of_all es) × (strings_of_all (unplaced_exprs es) ≡ strings_of_all es) × (tags_of_exprs (unplaced_exprs es) ≡ tags_of_exprs es) × (length (places_of_all es) ≡ calls_of_all es)
  all_counts_same no_exprs = (refl, refl, refl, refl)
  all_counts_same (more_exprs e es) = counts_both (places e) (places_of_all es) (counts_same e) (all_counts_same es)

  pub maybe_tags : (m : Maybe) → tags_of_maybe (unplaced_maybe m) ≡ tags_of_maybe m
  maybe_tags absent = refl
  maybe_tags (there e) = (counts_same e).2

  type_tags : (t : TypeName) → tags_of_type (unplaced_type t) ≡ tags_of_type t
  type_tags (type_name at s d) = joins (spec_tags s) (declarator_tags d)

  pub declarator_tags : (d : Declarator) → tags_of_declarator (unplaced_declarator d) ≡ tags_of_declarator d
  declarator_tags (pointer at d) = declarator_tags d
  declarator_tags (array at d size) = joins (declarator_tags d) (maybe_tags size)
  declarator_tags (function at d ps) = joins (declarator_tags d) (params_tags ps)
  declarator_tags d = refl

  params_tags : (ps : Params) → tags_of_params (unplaced_params ps) ≡ tags_of_params ps
  params_tags no_params = refl
  params_tags (more_params at s d ps) = joins (spec_tags s) (joins (declarator_tags d) (params_tags ps))

pub expr_tags : (e : Expr) → tags_of_expr (unplaced e) ≡ tags_of_expr e
expr_tags e = (counts_same e).2

pub expr_counted : (e : Expr) → length (places e) ≡ calls e
expr_counted e = (counts_same e).3

pub calls_same : (e : Expr) → calls (unplaced e) ≡ calls e
calls_same e = (counts_same e).0

pub strings_same : (e : Expr) → strings (unplaced e) ≡ strings e
strings_same e = (counts_same e).1

pub past_same : (b c : Before) (m n : ℕ) (v w : List (List ℕ)) → c ≡ b → m ≡ n → v ≡ w → past c m v ≡ past b n w
past_same b c m n v w e f g = ap₂ (λ x (y : ℕ × List (List ℕ)). past x (y.0) (y.1)) e (ap₂ (λ (x : ℕ) (y : List (List ℕ)). (x, y)) f g)

pub after_same : (b c : Before) (e : Expr) → c ≡ b → after c (unplaced e) ≡ after b e
after_same b c e h = past_same b c (calls (unplaced e)) (calls e) (strings (unplaced e)) (strings e) h (calls_same e) (strings_same e)

designator_same : (b c : Before) (d : Expr) → c ≡ b → after_designator c (unplaced d) ≡ after_designator b d
designator_same b c d h = past_same b c (suc (calls (unplaced d))) (suc (calls d)) (strings (unplaced d)) (strings d) h (ap suc (calls_same d)) (strings_same d)

site_same : (b c : Before) (d : Expr) → c ≡ b → c.sites + calls (unplaced d) ≡ b.sites + calls d
site_same b c d h = ap₂ (λ (x : Before) n. x.sites + n) h (calls_same d)

-- ## Rules

pub value_at_alike : (env : Env) (at to : ℕ) (r s : Checked TypedExpression) → Alike TypedExpression r s → Alike TypedExpression (value_at env at r) (value_at env to s)
value_at_alike env at to r s h = on_alike (valued env at) (valued env to) h (λ g _. valued_alike env at to g)

place_at_alike : (at to : ℕ) (r s : Checked TypedExpression) → Alike TypedExpression r s → Alike TypedExpression (place_at at r) (place_at to s)
place_at_alike at to r s h = on_alike (assignable at) (assignable to) h (λ g _. assignable_alike at to g)

by_value_alike : (at to : ℕ) (r s : Checked TypedExpression) → Alike TypedExpression r s → Alike Callee (on r (callee_by_value at)) (on s (callee_by_value to))
by_value_alike at to r s h = on_alike (callee_by_value at) (callee_by_value to) h (λ g _. callee_by_value_alike at to g)

meant_alike : (env : Env) (at to here yonder : ℕ) (x : Name) (r s : Checked TypedExpression) (m : Meaning) → Alike TypedExpression r s → Alike Callee (callee_meant env at here x r m) (callee_meant env to yonder x s m)
meant_alike env at to here yonder x r s (a_function t d) h = callee_by_name_alike env here yonder x t
meant_alike env at to here yonder x r s m h = by_value_alike at to r s h

bound_alike : (env : Env) (at to here yonder : ℕ) (x : Name) (r s : Checked TypedExpression) (b : Option Binding) → Alike TypedExpression r s → Alike Callee (callee_bound env at here x r b) (callee_bound env to yonder x s b)
bound_alike env at to here yonder x r s None h = by_value_alike at to r s h
bound_alike env at to here yonder x r s (Some b) h = meant_alike env at to here yonder x r s b.means h

callee_alike : (env : Env) (at to : ℕ) (d : Expr) (r s : Checked TypedExpression) → Alike TypedExpression r s → Alike Callee (callee env at d r) (callee env to (unplaced d) s)
callee_alike env at to (a_name here x) r s h = bound_alike env at to here 0 x r s (binding_of env x) h
callee_alike env at to d r s h = by_value_alike at to r s h

access_alike : (env : Env) (at to here yonder : ℕ) (how : Access) (x : Name) (r s : Checked TypedExpression) → Alike TypedExpression r s → Alike TypedExpression (access env at here how x r) (access env to yonder how x s)
access_alike env at to here yonder dot x r s h = on_alike (member_of env at x) (member_of env to x) h (λ g _. (member_agrees env at to x g).same)
access_alike env at to here yonder arrow x r s h =
    on_alike (member_of env at x) (member_of env to x)
    (on_alike (indirection at) (indirection to) (value_at_alike env here yonder r s h) (λ g _. (indirection_agrees at to g).same))
    (λ g _. (member_agrees env at to x g).same)

postfix_alike : (env : Env) (at to here yonder : ℕ) (op : Postfix) (r s : Checked TypedExpression) → Alike TypedExpression r s → Alike TypedExpression (after_operand env at here op r) (after_operand env to yonder op s)
postfix_alike env at to here yonder post_increment r s h = on_alike (step env at Add true) (step env to Add true) (place_at_alike here yonder r s h) (λ g _. (step_agrees env at to Add true g).same)
postfix_alike env at to here yonder post_decrement r s h = on_alike (step env at Sub true) (step env to Sub true) (place_at_alike here yonder r s h) (λ g _. (step_agrees env at to Sub true g).same)

prefix_alike : (env : Env) (at to here yonder : ℕ) (op : Prefix) (r s q t : Checked TypedExpression) → Alike TypedExpression r s → Alike TypedExpression q t → Alike TypedExpression (before_operand env at here op r q) (before_operand env to yonder op s t)
prefix_alike env at to here yonder pre_increment r s q t h k = on_alike (step env at Add false) (step env to Add false) (place_at_alike here yonder r s h) (λ g _. (step_agrees env at to Add false g).same)
prefix_alike env at to here yonder pre_decrement r s q t h k = on_alike (step env at Sub false) (step env to Sub false) (place_at_alike here yonder r s h) (λ g _. (step_agrees env at to Sub false g).same)
prefix_alike env at to here yonder sizeof r s q t h k = on_alike (size_of_expression env at) (size_of_expression env to) k (λ g _. size_alike env at to at to g.ctype)

unary_alike : (env : Env) (at to here yonder op : ℕ) (r s : Checked TypedExpression) → Alike TypedExpression r s → Alike TypedExpression (unary_rule env at here op r) (unary_rule env to yonder op s)
unary_alike env at to here yonder op r s h =
    by_test (nat_eq op AMPERSAND)
    (on_alike (address at here) (address to yonder) h (λ g _. (address_agrees at to g here yonder).same))
    (on_alike (unary_of_value at op) (unary_of_value to op) (value_at_alike env here yonder r s h) (λ g _. (unary_agrees at to g op).same))

casts_alike : (v : Bool) (at to : ℕ) (t u : Checked CType) (r s : Checked TypedExpression) → Alike CType t u → Alike TypedExpression r s → Alike TypedExpression (cast_rule v at t r) (cast_rule v to u s)
casts_alike true at to t u r s h k = on_alike (null_cast at) (null_cast to) k (λ g _. null_cast_alike at to g)
casts_alike false at to t u r s h k = both_alike r s (cast_of at) (cast_of to) h (λ _ _. k) (λ a g. cast_alike at to a g)

void_spec_same : (s : Spec) → is_void_spec (unplaced_spec s) ≡ is_void_spec s
void_spec_same syntax.void = refl
void_spec_same s = refl

bare_same : (d : Declarator) → is_bare_pointer (unplaced_declarator d) ≡ is_bare_pointer d
bare_same (pointer at nothing) = refl
bare_same d = refl

void_pointer_same : (t : TypeName) → is_void_pointer (unplaced_type t) ≡ is_void_pointer t
void_pointer_same (type_name at s d) = ap₂ (λ a b. a && b) (void_spec_same s) (bare_same d)

-- ## Expressions

-- the value of an expression, from what it gives
value_of : (env : Env) (b c : Before) (e : Expr) → Alike TypedExpression (tree env b e) (tree env c (unplaced e)) → Alike TypedExpression (value env b e) (value env c (unplaced e))
value_of env b c e h = value_at_alike env (place_of e) (place_of (unplaced e)) (tree env b e) (tree env c (unplaced e)) h

mutual
  pub tree_alike : (env : Env) (b c : Before) → c ≡ b → (e : Expr) → Alike TypedExpression (tree env b e) (tree env c (unplaced e))
  tree_alike env b c h (a_name at x) = named_alike env at 0 x
  tree_alike env b c h (a_str at w) = subst (λ y. Alike TypedExpression (tree env b (a_str at w)) (tree env y (a_str 0 w))) (sym h) (string_alike env b at 0 w)
  tree_alike env b c h (comma at es) = gives_alike comma_of (trees_alike env b c h es)
  tree_alike env b c h (sizeof_type at t) =
      on_alike (size_of_type env at (place_of_type t)) (size_of_type env 0 (place_of_type (unplaced_type t))) (type_alike env t)
      (λ u _. size_alike env at 0 (place_of_type t) (place_of_type (unplaced_type t)) u)
  tree_alike env b c h (cast at t e) =
      subst (λ v. Alike TypedExpression (tree env b (cast at t e)) (cast_rule v 0 (type_named env (unplaced_type t)) (value env c (unplaced e)))) (sym (void_pointer_same t))
      (casts_alike (is_void_pointer t) at 0 (type_named env t) (type_named env (unplaced_type t)) (value env b e) (value env c (unplaced e)) (type_alike env t) (value_of env b c e (tree_alike env b c h e)))
  tree_alike env b c h (call at d es) =
      three_alike (site_of env (b.sites + calls d) at) (site_of env (c.sites + calls (unplaced d)) 0) (trees env (after_designator b d) es) (trees env (after_designator c (unplaced d)) (unplaced_exprs es)) (called at) (called 0)
      (callee_alike env at 0 d (value env b d) (value env c (unplaced d)) (value_of env b c d (tree_alike env b c h d)))
      (λ _ _. subst (λ n. Alike ℕ (site_of env (b.sites + calls d) at) (site_of env n 0)) (sym (site_same b c d h)) (site_alike env (b.sites + calls d) at 0))
      (λ _ _ _ _. trees_alike env (after_designator b d) (after_designator c (unplaced d)) (designator_same b c d h) es) (λ f s gs. called_alike at 0 f s gs)
  tree_alike env b c h (member at how e x) = access_alike env at 0 (place_of e) (place_of (unplaced e)) how x.name (tree env b e) (tree env c (unplaced e)) (tree_alike env b c h e)
  tree_alike env b c h (postfix at op e) = postfix_alike env at 0 (place_of e) (place_of (unplaced e)) op (tree env b e) (tree env c (unplaced e)) (tree_alike env b c h e)
  tree_alike env b c h (prefix at op e) =
      prefix_alike env at 0 (place_of e) (place_of (unplaced e)) op (tree env b e) (tree env c (unplaced e)) (tree (in_context env sized) nothing_before e) (tree (in_context env sized) nothing_before (unplaced e))
      (tree_alike env b c h e) (tree_alike (in_context env sized) nothing_before nothing_before refl e)
  tree_alike env b c h (unary at op e) = unary_alike env at 0 (place_of e) (place_of (unplaced e)) op (tree env b e) (tree env c (unplaced e)) (tree_alike env b c h e)
  tree_alike env b c h (index at x y) =
      on_alike (indirection at) (indirection 0)
      (both_alike (value env (after b x) y) (value env (after c (unplaced x)) (unplaced y)) (sum env at) (sum env 0) (value_of env b c x (tree_alike env b c h x))
      (λ _ _. value_of env (after b x) (after c (unplaced x)) y (tree_alike env (after b x) (after c (unplaced x)) (after_same b c x h) y)) (λ p q. (operation_agrees env at 0 p q Add).same))
      (λ g _. (indirection_agrees at 0 g).same)
  tree_alike env b c h (binary at op x y) =
      both_alike (value env (after b x) y) (value env (after c (unplaced x)) (unplaced y)) (infix_rule env at op) (infix_rule env 0 op) (value_of env b c x (tree_alike env b c h x))
      (λ _ _. value_of env (after b x) (after c (unplaced x)) y (tree_alike env (after b x) (after c (unplaced x)) (after_same b c x h) y)) (λ p q. (infix_agrees env at 0 p q op).same)
  tree_alike env b c h (assign at op x y) =
      both_alike (value env (after b x) y) (value env (after c (unplaced x)) (unplaced y)) (assignment_by env at op) (assignment_by env 0 op)
      (place_at_alike (place_of x) (place_of (unplaced x)) (tree env b x) (tree env c (unplaced x)) (tree_alike env b c h x))
      (λ _ _. value_of env (after b x) (after c (unplaced x)) y (tree_alike env (after b x) (after c (unplaced x)) (after_same b c x h) y)) (λ p q. (assignment_agrees env at 0 op p q).same)
  tree_alike env b c h (conditional at x y z) =
      let b1 : Before = after b x in
      let c1 : Before = after c (unplaced x) in
      let h1 : c1 ≡ b1 = after_same b c x h in
      three_alike (value env b1 y) (value env c1 (unplaced y)) (value env (after b1 y) z) (value env (after c1 (unplaced y)) (unplaced z)) (choice at) (choice 0) (value_of env b c x (tree_alike env b c h x)) (λ _ _. value_of env b1 c1 y (tree_alike env b1 c1 h1 y))
      (λ _ _ _ _. value_of env (after b1 y) (after c1 (unplaced y)) z (tree_alike env (after b1 y) (after c1 (unplaced y)) (after_same b1 c1 y h1) z)) (λ p q r. (choice_agrees at 0 p q r).same)
  tree_alike env b c h e = alike (tree env b e)

  pub trees_alike : (env : Env) (b c : Before) → c ≡ b → (es : Exprs) → Alike (List TypedExpression) (trees env b es) (trees env c (unplaced_exprs es))
  trees_alike env b c h no_exprs = alike (fine [])
  trees_alike env b c h (more_exprs e es) =
      joined_alike (trees env (after b e) es) (trees env (after c (unplaced e)) (unplaced_exprs es)) (λ g gs. g ∷ gs) (value_of env b c e (tree_alike env b c h e))
      (λ _ _. trees_alike env (after b e) (after c (unplaced e)) (after_same b c e h) es)

  pub type_alike : (env : Env) (t : TypeName) → Alike CType (type_named env t) (type_named env (unplaced_type t))
  type_alike env (type_name at s d) = on_alike (declared env d) (declared env (unplaced_declarator d)) (spec_alike env at 0 s) (λ t _. declared_alike env d t)

  pub declared_alike : (env : Env) (d : Declarator) (t : CType) → Alike CType (declared env d t) (declared env (unplaced_declarator d) t)
  declared_alike env (pointer at d) t = on_alike (declared env d) (declared env (unplaced_declarator d)) (pointer_alike at 0 t) (λ u _. declared_alike env d u)
  declared_alike env (array at d size) t =
      on_alike (declared env d) (declared env (unplaced_declarator d))
      (on_alike (array_of env at t) (array_of env 0 t) (size_alike_in env size) (λ n _. array_alike env at 0 t n)) (λ u _. declared_alike env d u)
  declared_alike env (function at d ps) t =
      on_alike (declared env d) (declared env (unplaced_declarator d))
      (on_alike (function_of at t) (function_of 0 t) (parameters_alike (inside env) 0 ps) (λ ts _. function_alike at 0 t ts)) (λ u _. declared_alike env d u)
  declared_alike env d t = alike (fine t)

  pub size_alike_in : (env : Env) (m : Maybe) → Alike ℕ (size_in env m) (size_in env (unplaced_maybe m))
  size_alike_in env absent = alike (fine 0)
  size_alike_in env (there e) =
      on_alike (array_size (place_of e)) (array_size (place_of (unplaced e))) (value_of (in_context env folded) nothing_before nothing_before e (tree_alike (in_context env folded) nothing_before nothing_before refl e))
      (λ g _. array_size_alike (place_of e) (place_of (unplaced e)) g)

  pub parameters_alike : (env : Env) (k : ℕ) (ps : Params) → Alike CTypes (parameters env k ps) (parameters env k (unplaced_params ps))
  parameters_alike env k no_params = alike (fine no_types)
  parameters_alike env k (more_params at s d ps) =
      let r : Checked CType = type_of_parameter env at s d in
      let q : Checked CType = type_of_parameter env 0 (unplaced_spec s) (unplaced_declarator d) in
      let h : Alike CType r q =
      on_alike (parameter_of (place_or at d)) (parameter_of (place_or 0 (unplaced_declarator d)))
      (on_alike (declared env d) (declared env (unplaced_declarator d)) (spec_alike env at 0 s) (λ t _. declared_alike env d t))
      (λ t _. parameter_alike (place_or at d) (place_or 0 (unplaced_declarator d)) t) in
      joined_alike (parameters (behind_parameter env k (name_of d) r) k ps) (parameters (behind_parameter env k (name_of (unplaced_declarator d)) q) k (unplaced_params ps))
      (λ t ts. more_types t ts) (with_name_alike env d r q h)
      (λ t e. subst (λ f. Alike CTypes (parameters (behind_parameter env k (name_of d) r) k ps) (parameters f k (unplaced_params ps))) (behind_parameter_same env k d r q t h e)
      (parameters_alike (behind_parameter env k (name_of d) r) k ps))

pub value_alike : (env : Env) (b c : Before) → c ≡ b → (e : Expr) → Alike TypedExpression (value env b e) (value env c (unplaced e))
value_alike env b c h e = value_of env b c e (tree_alike env b c h e)

pub type_declared_alike : (env : Env) (at to : ℕ) (s : Spec) (d : Declarator) → Alike CType (type_declared env at s d) (type_declared env to (unplaced_spec s) (unplaced_declarator d))
type_declared_alike env at to s d = on_alike (declared env d) (declared env (unplaced_declarator d)) (spec_alike env at to s) (λ t _. declared_alike env d t)

pub folded_alike : (env : Env) (e : Expr) → Alike TypedExpression (folded_value env e) (folded_value env (unplaced e))
folded_alike env e = value_alike (in_context env folded) nothing_before nothing_before refl e
