-- Expressions and declarators in the two modes.
use Rattle.std.proofs.Common.{◌≡◌, ℕ, ◌+◌, Bool, true, false, if◌then◌else◌, ◌∷◌, Option, Some, None, nat_eq, refl, sym, subst}
use Rattle.c_syntax.specs.TheConstants.{AMPERSAND}
use Rattle.c_tree.specs.declared.value.BinOp.TheVariants.{Add, Sub}
use Rattle.c_tree.specs.Tree.{CType, more_types}
use Rattle.c_syntax.specs.Tree.{Ident, Spec, Expr, a_name, a_str, comma, sizeof_type, cast, call, member, postfix, prefix, unary, index, binary, assign, conditional, Exprs, no_exprs, more_exprs, Maybe, absent, there}
use Rattle.c_syntax.specs.Tree.{Postfix, post_increment, post_decrement, Prefix, pre_increment, pre_decrement, sizeof, Access, dot, arrow, Infix, and}
use Rattle.c_syntax.specs.Tree.{TypeName, type_name, Declarator, pointer, array, function, Params, no_params, more_params}
use Rattle.c_rules.specs.Checked.{Checked, fine, on, both}
use Rattle.c_rules.specs.Names.{Name}
use Rattle.c_rules.specs.Scopes.{Env, a_local, Before, nothing_before, sized, folded, in_context, inside}
use Rattle.c_rules.specs.Counts.{place_of, calls, after, after_designator}
use Rattle.c_rules.specs.TypedExpression.{TypedExpression}
use Rattle.c_rules.specs.PrimaryExpressions.{string_expression}
use Rattle.c_rules.specs.PostfixExpressions.{site_of, callee_by_value, called, member_of}
use Rattle.c_rules.specs.UnaryExpressions.{address, indirection, unary_of_value, size_of_expression, size_of_type, cast_of, null_cast}
use Rattle.c_rules.specs.BinaryExpressions.{sum, choice}
use Rattle.c_rules.specs.Assignments.{assignable, assignment_by, step, comma_of}
use Rattle.c_rules.specs.Declarators.{name_of, place_or, place_of_type, is_void_pointer, type_of_spec, pointer_to, array_of, function_of, parameter_of, array_size, new_name, variable_meaning, with_name_demands, behind_parameter}
use Rattle.c_rules.specs.Expressions.{value_at, place_at, callee, access, after_operand, before_operand, unary_rule, infix_rule, cast_rule, tree, trees, type_named, declared, size_in, parameters, value, type_declared, type_of_parameter}
use Rattle.c_rules.proofs.Modes.{Leads, same_leads, fine_leads, on_leads, then_leads, both_leads, gives_leads, all_three_lead, first_fine, ArePlain, MeanAlike, More, Alike, alike, named_alike}
use Rattle.c_rules.proofs.ModeNames.{left, right, named_leads, site_leads, named_callee_leads, value_at_leads, new_name_leads, new_name_plain}

place_at_leads : (place : ℕ) (r s : Checked TypedExpression) → Leads r s → Leads (place_at place r) (place_at place s)
place_at_leads place r s h = then_leads r s (assignable place) h

callee_leads : (env : Env) (w : More) → ArePlain env.names → MeanAlike env.names w.names → (at : ℕ) (b : Before) (d : Expr) → Leads (value_at (left env) (place_of d) (tree (left env) b d)) (value_at (right env w) (place_of d) (tree (right env w) b d))
    → Leads (callee (left env) at d (value_at (left env) (place_of d) (tree (left env) b d))) (callee (right env w) at d (value_at (right env w) (place_of d) (tree (right env w) b d)))
callee_leads env w p m at b (a_name place x) h = named_callee_leads env w p m at place x
callee_leads env w p m at b d h = then_leads (value_at (left env) (place_of d) (tree (left env) b d)) (value_at (right env w) (place_of d) (tree (right env w) b d)) (callee_by_value at) h

access_leads : (env : Env) (w : More) (at place : ℕ) (how : Access) (x : Name) (r s : Checked TypedExpression) → Leads r s → Leads (access (left env) at place how x r) (access (right env w) at place how x s)
access_leads env w at place dot x r s h = then_leads r s (member_of (left env) at x) h
access_leads env w at place arrow x r s h =
    then_leads (on (value_at (left env) place r) (indirection at)) (on (value_at (right env w) place s) (indirection at)) (member_of (left env) at x) (then_leads (value_at (left env) place r) (value_at (right env w) place s) (indirection at) (value_at_leads env w place r s h))

after_operand_leads : (env : Env) (w : More) (at place : ℕ) (op : Postfix) (r s : Checked TypedExpression) → Leads r s → Leads (after_operand (left env) at place op r) (after_operand (right env w) at place op s)
after_operand_leads env w at place post_increment r s h = then_leads (place_at place r) (place_at place s) (step (left env) at Add true) (place_at_leads place r s h)
after_operand_leads env w at place post_decrement r s h = then_leads (place_at place r) (place_at place s) (step (left env) at Sub true) (place_at_leads place r s h)

before_operand_leads : (env : Env) (w : More) (at place : ℕ) (op : Prefix) (r s q t : Checked TypedExpression) → Leads r s → Leads q t → Leads (before_operand (left env) at place op r q) (before_operand (right env w) at place op s t)
before_operand_leads env w at place pre_increment r s q t h k = then_leads (place_at place r) (place_at place s) (step (left env) at Add false) (place_at_leads place r s h)
before_operand_leads env w at place pre_decrement r s q t h k = then_leads (place_at place r) (place_at place s) (step (left env) at Sub false) (place_at_leads place r s h)
before_operand_leads env w at place sizeof r s q t h k = then_leads q t (size_of_expression (left env) at) k

unary_by : (t : Bool) (a b c d : Checked TypedExpression) → Leads a b → Leads c d → Leads (if t then a else c) (if t then b else d)
unary_by true a b c d h k = h
unary_by false a b c d h k = k

unary_leads : (env : Env) (w : More) (at place op : ℕ) (r s : Checked TypedExpression) → Leads r s → Leads (unary_rule (left env) at place op r) (unary_rule (right env w) at place op s)
unary_leads env w at place op r s h =
    unary_by (nat_eq op AMPERSAND) (on r (address at place)) (on s (address at place)) (on (value_at (left env) place r) (unary_of_value at op)) (on (value_at (right env w) place s) (unary_of_value at op))
    (then_leads r s (address at place) h)
    (then_leads (value_at (left env) place r) (value_at (right env w) place s) (unary_of_value at op) (value_at_leads env w place r s h))

infix_leads : (env : Env) (w : More) (at : ℕ) (op : Infix) (a b : TypedExpression) → Leads (infix_rule (left env) at op a b) (infix_rule (right env w) at op a b)
infix_leads env w at and a b = same_leads (infix_rule (left env) at and a b)
infix_leads env w at op a b = same_leads (infix_rule (left env) at op a b)

cast_leads : (v : Bool) (at : ℕ) (t u : Checked CType) (r s : Checked TypedExpression) → Leads t u → Leads r s → Leads (cast_rule v at t r) (cast_rule v at u s)
cast_leads true at t u r s h k = then_leads r s (null_cast at) k
cast_leads false at t u r s h k = both_leads t u r s (cast_of at) (cast_of at) h (λ _ _. k) (λ a g. same_leads (cast_of at a g))

with_name_leads : (env : Env) (w : More) → MeanAlike env.names w.names → (n : Option Ident) (r s : Checked CType) → Leads r s → Leads (with_name_demands (left env) n r) (with_name_demands (right env w) n s)
with_name_leads env w m None r s h = h
with_name_leads env w m (Some x) r s h = both_leads r s (new_name (left env) x) (new_name (right env w) x) (λ t _. fine t) (λ t _. fine t) h (λ _ _. new_name_leads env w m x) (λ t _. same_leads (fine t))

-- behind a parameter whose declaration is fine
pub behind_alike : (env : Env) (w : More) → ArePlain env.names → MeanAlike env.names w.names → (k : ℕ) (n : Option Ident) (r s : Checked CType) (t : CType) → Leads r s → with_name_demands (left env) n r ≡ fine t → Alike (behind_parameter (left env) k n r) (behind_parameter (right env w) k n s)
behind_alike env w p m k None r s t h e = alike env w p m
behind_alike env w p m k (Some x) r s t h e =
    let f = first_fine r (new_name (left env) x) (λ u _. fine u) t e in
    let q : variable_meaning (left env) k x r ≡ fine (a_local k f.0 f.0) = subst (λ y. both y (new_name (left env) x) (λ u _. fine (a_local k u u)) ≡ fine (a_local k f.0 f.0)) (sym f.2) (subst (λ z. both (fine f.0) z (λ u _. fine (a_local k u u)) ≡ fine (a_local k f.0 f.0)) (sym f.3) refl) in
    let l : Leads (variable_meaning (left env) k x r) (variable_meaning (right env w) k x s) = both_leads r s (new_name (left env) x) (new_name (right env w) x) (λ u _. fine (a_local k u u)) (λ u _. fine (a_local k u u)) h (λ _ _. new_name_leads env w m x) (λ u _. same_leads (fine (a_local k u u))) in
    named_alike (left env) (right env w) (alike env w p m) x.name (variable_meaning (left env) k x r) (variable_meaning (right env w) k x s) (a_local k f.0 f.0) (new_name_plain env x f.1 f.3) q (fine_leads _ _ _ l q)

mutual
  pub tree_leads : (e f : Env) → Alike e f → (b : Before) (x : Expr) → Leads (tree e b x) (tree f b x)
  tree_leads e f (alike env w p m) b (a_name at x) = named_leads env w p m at x
  tree_leads e f (alike env w p m) b (a_str at text) = same_leads (string_expression (left env) b at text)
  tree_leads e f (alike env w p m) b (comma at es) = gives_leads (trees (left env) b es) (trees (right env w) b es) comma_of (trees_lead _ _ (alike env w p m) b es)
  tree_leads e f (alike env w p m) b (sizeof_type at t) =
      then_leads (type_named (left env) t) (type_named (right env w) t) (size_of_type (left env) at (place_of_type t)) (type_named_leads _ _ (alike env w p m) t)
  tree_leads e f (alike env w p m) b (cast at t x) =
      cast_leads (is_void_pointer t) at (type_named (left env) t) (type_named (right env w) t) (value_at (left env) (place_of x) (tree (left env) b x)) (value_at (right env w) (place_of x) (tree (right env w) b x)) (type_named_leads _ _ (alike env w p m) t) (value_at_leads env w (place_of x) _ _ (tree_leads _ _ (alike env w p m) b x))
  tree_leads e f (alike env w p m) b (call at d es) =
      all_three_lead (callee (left env) at d (value_at (left env) (place_of d) (tree (left env) b d))) (callee (right env w) at d (value_at (right env w) (place_of d) (tree (right env w) b d))) (site_of (left env) (b.sites + calls d) at) (site_of (right env w) (b.sites + calls d) at) (trees (left env) (after_designator b d) es) (trees (right env w) (after_designator b d) es) (called at) (called at)
      (callee_leads env w p m at b d (value_at_leads env w (place_of d) _ _ (tree_leads _ _ (alike env w p m) b d)))
      (λ _ _. site_leads env w (b.sites + calls d) at) (λ _ _ _ _. trees_lead _ _ (alike env w p m) (after_designator b d) es) (λ c s gs. same_leads (called at c s gs))
  tree_leads e f (alike env w p m) b (member at how x y) = access_leads env w at (place_of x) how y.name _ _ (tree_leads _ _ (alike env w p m) b x)
  tree_leads e f (alike env w p m) b (postfix at op x) = after_operand_leads env w at (place_of x) op _ _ (tree_leads _ _ (alike env w p m) b x)
  tree_leads e f (alike env w p m) b (prefix at op x) =
      before_operand_leads env w at (place_of x) op _ _ _ _ (tree_leads _ _ (alike env w p m) b x) (tree_leads _ _ (alike (in_context env sized) w p m) nothing_before x)
  tree_leads e f (alike env w p m) b (unary at op x) = unary_leads env w at (place_of x) op _ _ (tree_leads _ _ (alike env w p m) b x)
  tree_leads e f (alike env w p m) b (index at x y) =
      then_leads (both (value_at (left env) (place_of x) (tree (left env) b x)) (value_at (left env) (place_of y) (tree (left env) (after b x) y)) (sum (left env) at)) (both (value_at (right env w) (place_of x) (tree (right env w) b x)) (value_at (right env w) (place_of y) (tree (right env w) (after b x) y)) (sum (right env w) at)) (indirection at)
      (both_leads _ _ _ _ (sum (left env) at) (sum (right env w) at) (value_at_leads env w (place_of x) _ _ (tree_leads _ _ (alike env w p m) b x)) (λ _ _. value_at_leads env w (place_of y) _ _ (tree_leads _ _ (alike env w p m) (after b x) y)) (λ g h. same_leads (sum (left env) at g h)))
  tree_leads e f (alike env w p m) b (binary at op x y) =
      both_leads (value_at (left env) (place_of x) (tree (left env) b x)) (value_at (right env w) (place_of x) (tree (right env w) b x)) (value_at (left env) (place_of y) (tree (left env) (after b x) y)) (value_at (right env w) (place_of y) (tree (right env w) (after b x) y)) (infix_rule (left env) at op) (infix_rule (right env w) at op)
      (value_at_leads env w (place_of x) _ _ (tree_leads _ _ (alike env w p m) b x)) (λ _ _. value_at_leads env w (place_of y) _ _ (tree_leads _ _ (alike env w p m) (after b x) y)) (λ g h. infix_leads env w at op g h)
  tree_leads e f (alike env w p m) b (assign at op x y) =
      both_leads (place_at (place_of x) (tree (left env) b x)) (place_at (place_of x) (tree (right env w) b x)) (value_at (left env) (place_of y) (tree (left env) (after b x) y)) (value_at (right env w) (place_of y) (tree (right env w) (after b x) y)) (assignment_by (left env) at op) (assignment_by (right env w) at op)
      (place_at_leads (place_of x) _ _ (tree_leads _ _ (alike env w p m) b x)) (λ _ _. value_at_leads env w (place_of y) _ _ (tree_leads _ _ (alike env w p m) (after b x) y)) (λ g h. same_leads (assignment_by (left env) at op g h))
  tree_leads e f (alike env w p m) b (conditional at c x y) =
      all_three_lead (value_at (left env) (place_of c) (tree (left env) b c)) (value_at (right env w) (place_of c) (tree (right env w) b c)) (value_at (left env) (place_of x) (tree (left env) (after b c) x)) (value_at (right env w) (place_of x) (tree (right env w) (after b c) x)) (value_at (left env) (place_of y) (tree (left env) (after (after b c) x) y)) (value_at (right env w) (place_of y) (tree (right env w) (after (after b c) x) y)) (choice at) (choice at)
      (value_at_leads env w (place_of c) _ _ (tree_leads _ _ (alike env w p m) b c)) (λ _ _. value_at_leads env w (place_of x) _ _ (tree_leads _ _ (alike env w p m) (after b c) x)) (λ _ _ _ _. value_at_leads env w (place_of y) _ _ (tree_leads _ _ (alike env w p m) (after (after b c) x) y)) (λ g h i. same_leads (choice at g h i))
  tree_leads e f x b y = (refl, tt)

  pub trees_lead : (e f : Env) → Alike e f → (b : Before) (xs : Exprs) → Leads (trees e b xs) (trees f b xs)
  trees_lead e f (alike env w p m) b no_exprs = (refl, tt)
  trees_lead e f (alike env w p m) b (more_exprs x xs) =
      both_leads (value_at (left env) (place_of x) (tree (left env) b x)) (value_at (right env w) (place_of x) (tree (right env w) b x)) (trees (left env) (after b x) xs) (trees (right env w) (after b x) xs) (λ g gs. fine (g ∷ gs)) (λ g gs. fine (g ∷ gs))
      (value_at_leads env w (place_of x) _ _ (tree_leads _ _ (alike env w p m) b x)) (λ _ _. trees_lead _ _ (alike env w p m) (after b x) xs) (λ g gs. (refl, tt))

  pub type_named_leads : (e f : Env) → Alike e f → (t : TypeName) → Leads (type_named e t) (type_named f t)
  type_named_leads e f (alike env w p m) (type_name at s d) =
      on_leads (type_of_spec (left env) at s) (type_of_spec (right env w) at s) (λ t. declared (left env) d t) (λ t. declared (right env w) d t) (same_leads (type_of_spec (left env) at s)) (λ t _. declared_leads _ _ (alike env w p m) d t)

  pub declared_leads : (e f : Env) → Alike e f → (d : Declarator) (t : CType) → Leads (declared e d t) (declared f d t)
  declared_leads e f (alike env w p m) (pointer at d) t = on_leads (pointer_to at t) (pointer_to at t) (λ u. declared (left env) d u) (λ u. declared (right env w) d u) (same_leads (pointer_to at t)) (λ u _. declared_leads _ _ (alike env w p m) d u)
  declared_leads e f (alike env w p m) (array at d size) t =
      on_leads (on (size_in (left env) size) (array_of (left env) at t)) (on (size_in (right env w) size) (array_of (right env w) at t)) (λ u. declared (left env) d u) (λ u. declared (right env w) d u)
      (then_leads (size_in (left env) size) (size_in (right env w) size) (array_of (left env) at t) (size_leads _ _ (alike env w p m) size)) (λ u _. declared_leads _ _ (alike env w p m) d u)
  declared_leads e f (alike env w p m) (function at d ps) t =
      on_leads (on (parameters (inside (left env)) 0 ps) (function_of at t)) (on (parameters (inside (right env w)) 0 ps) (function_of at t)) (λ u. declared (left env) d u) (λ u. declared (right env w) d u)
      (then_leads (parameters (inside (left env)) 0 ps) (parameters (inside (right env w)) 0 ps) (function_of at t) (parameters_lead _ _ (alike (inside env) w p m) 0 ps)) (λ u _. declared_leads _ _ (alike env w p m) d u)
  declared_leads e f x d t = (refl, tt)

  pub size_leads : (e f : Env) → Alike e f → (m : Maybe) → Leads (size_in e m) (size_in f m)
  size_leads e f (alike env w p m) absent = (refl, tt)
  size_leads e f (alike env w p m) (there x) =
      then_leads (value_at (left (in_context env folded)) (place_of x) (tree (left (in_context env folded)) nothing_before x)) (value_at (right (in_context env folded) w) (place_of x) (tree (right (in_context env folded) w) nothing_before x)) (array_size (place_of x))
      (value_at_leads (in_context env folded) w (place_of x) _ _ (tree_leads _ _ (alike (in_context env folded) w p m) nothing_before x))

  pub parameters_lead : (e f : Env) → Alike e f → (k : ℕ) (ps : Params) → Leads (parameters e k ps) (parameters f k ps)
  parameters_lead e f (alike env w p m) k no_params = (refl, tt)
  parameters_lead e f (alike env w p m) k (more_params at s d ps) =
      let r : Checked CType = on (on (type_of_spec (left env) at s) (λ t. declared (left env) d t)) (parameter_of (place_or at d)) in
      let q : Checked CType = on (on (type_of_spec (right env w) at s) (λ t. declared (right env w) d t)) (parameter_of (place_or at d)) in
      let h : Leads r q = then_leads (on (type_of_spec (left env) at s) (λ t. declared (left env) d t)) (on (type_of_spec (right env w) at s) (λ t. declared (right env w) d t)) (parameter_of (place_or at d)) (on_leads (type_of_spec (left env) at s) (type_of_spec (right env w) at s) (λ t. declared (left env) d t) (λ t. declared (right env w) d t) (same_leads (type_of_spec (left env) at s)) (λ t _. declared_leads _ _ (alike env w p m) d t)) in
      both_leads (with_name_demands (left env) (name_of d) r) (with_name_demands (right env w) (name_of d) q) (parameters (behind_parameter (left env) k (name_of d) r) k ps) (parameters (behind_parameter (right env w) k (name_of d) q) k ps) (λ t ts. fine (more_types t ts)) (λ t ts. fine (more_types t ts))
      (with_name_leads env w m (name_of d) r q h) (λ t e. parameters_lead _ _ (behind_alike env w p m k (name_of d) r q t h e) k ps) (λ t ts. (refl, tt))

pub value_leads : (e f : Env) → Alike e f → (b : Before) (x : Expr) → Leads (value e b x) (value f b x)
value_leads e f (alike env w p m) b x = value_at_leads env w (place_of x) _ _ (tree_leads _ _ (alike env w p m) b x)

pub type_declared_leads : (e f : Env) → Alike e f → (at : ℕ) (s : Spec) (d : Declarator) → Leads (type_declared e at s d) (type_declared f at s d)
type_declared_leads e f (alike env w p m) at s d = type_named_leads _ _ (alike env w p m) (type_name at s d)

pub parameter_leads : (e f : Env) → Alike e f → (at : ℕ) (s : Spec) (d : Declarator) → Leads (type_of_parameter e at s d) (type_of_parameter f at s d)
parameter_leads e f w at s d = then_leads (type_declared e at s d) (type_declared f at s d) (parameter_of (place_or at d)) (type_declared_leads e f w at s d)
