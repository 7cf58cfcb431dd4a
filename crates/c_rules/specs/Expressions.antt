-- What expressions, names of types and declarators give: the recursion on the syntax, one rule for each form (6.5, 6.7.5, 6.7.6).
use Rattle.std.specs.Prelude.{ℕ, suc, ◌+◌, Bool, true, false, List, [], ◌∷◌, if◌then◌else◌, Option, Some, None, nat_eq}
use Rattle.c_tree.specs.declared.value.BinOp.TheVariants.{Add, Sub}
use Rattle.c_syntax.specs.TheConstants.{AMPERSAND}
use Rattle.c_tree.specs.Tree.{CType, CTypes, no_types, more_types}
use Rattle.c_syntax.specs.Tree.{Spec, Expr, a_name, an_int, a_char, a_str, comma, sizeof_type, cast, call, member, postfix, prefix, unary, index, binary, assign, conditional, Exprs, no_exprs, more_exprs, Maybe, absent, there}
use Rattle.c_syntax.specs.Tree.{Postfix, post_increment, post_decrement, Prefix, pre_increment, pre_decrement, sizeof, Access, dot, arrow, Infix, and, or, operator}
use Rattle.c_syntax.specs.Tree.{TypeName, type_name, Declarator, nothing, named, pointer, array, function, Params, no_params, more_params}
use Rattle.c_rules.specs.Checked.{Checked, fine, on, both, all_three, gives}
use Rattle.c_rules.specs.Names.{Name}
use Rattle.c_rules.specs.Scopes.{Env, Binding, Meaning, a_function, Before, nothing_before, sized, folded, in_context, inside, binding_of}
use Rattle.c_rules.specs.Counts.{place_of, calls, after, after_designator}
use Rattle.c_rules.specs.TypedExpression.{TypedExpression}
use Rattle.c_rules.specs.Conversions.{valued}
use Rattle.c_rules.specs.PrimaryExpressions.{named_expression, integer_expression, typed_int, string_expression}
use Rattle.c_rules.specs.PostfixExpressions.{Callee, site_of, callee_by_name, callee_by_value, called, member_of}
use Rattle.c_rules.specs.UnaryExpressions.{address, indirection, unary_of_value, size_of_expression, size_of_type, cast_of, null_cast}
use Rattle.c_rules.specs.BinaryExpressions.{operator_of_code, sum, operation, conjunction, disjunction, choice}
use Rattle.c_rules.specs.Assignments.{assignable, assignment_by, step, comma_of}
use Rattle.c_rules.specs.Declarators.{name_of, place_or, place_of_type, is_void_pointer, type_of_spec, pointer_to, array_of, function_of, parameter_of, array_size, with_name_demands, behind_parameter}

-- the value of an expression that gives this
abbrev pub value_at : Env → (place : ℕ) → Checked TypedExpression → Checked TypedExpression
value_at env place r = on r (valued env place)

-- the operand of an assignment or a step
abbrev pub place_at : (place : ℕ) → Checked TypedExpression → Checked TypedExpression
place_at place r = on r (assignable place)

-- What is called (6.5.2.2): the call is direct exactly where its designator is the name of a function.
abbrev pub callee_meant : Env → (at place : ℕ) → Name → Checked TypedExpression → Meaning → Checked Callee
callee_meant env at place x r (a_function t d) = callee_by_name env place x t
callee_meant env at place x r m = on r (callee_by_value at)

abbrev pub callee_bound : Env → (at place : ℕ) → Name → Checked TypedExpression → Option Binding → Checked Callee
callee_bound env at place x r None = on r (callee_by_value at)
callee_bound env at place x r (Some b) = callee_meant env at place x r b.means

-- the callee of a call whose designator has this value
abbrev pub callee : Env → (at : ℕ) → Expr → Checked TypedExpression → Checked Callee
callee env at (a_name place x) r = callee_bound env at place x r (binding_of env x)
callee env at d r = on r (callee_by_value at)

-- `e.x` and `e->x` (6.5.2.3), where the operand gives this
abbrev pub access : Env → (at place : ℕ) → Access → Name → Checked TypedExpression → Checked TypedExpression
access env at place dot x r = on r (member_of env at x)
access env at place arrow x r = on (on (value_at env place r) (indirection at)) (member_of env at x)

-- `e++` and `e--` (6.5.2.4)
abbrev pub after_operand : Env → (at place : ℕ) → Postfix → Checked TypedExpression → Checked TypedExpression
after_operand env at place post_increment r = on (place_at place r) (step env at Add true)
after_operand env at place post_decrement r = on (place_at place r) (step env at Sub true)

-- `++e`, `--e` and `sizeof e` (6.5.3.1, 6.5.3.4); the operand of sizeof isn't evaluated
abbrev pub before_operand : Env → (at place : ℕ) → Prefix → (evaluated operand : Checked TypedExpression) → Checked TypedExpression
before_operand env at place pre_increment r s = on (place_at place r) (step env at Add false)
before_operand env at place pre_decrement r s = on (place_at place r) (step env at Sub false)
before_operand env at place sizeof r s = on s (size_of_expression env at)

-- the other unary operators (6.5.3); & takes what designates something, the others take a value
abbrev pub unary_rule : Env → (at place op : ℕ) → Checked TypedExpression → Checked TypedExpression
unary_rule env at place op r =
    if nat_eq op AMPERSAND then on r (address at place) else on (value_at env place r) (unary_of_value at op)

-- operators between two values
abbrev pub infix_rule : Env → (at : ℕ) → Infix → TypedExpression → TypedExpression → Checked TypedExpression
infix_rule env at and a b = conjunction at a b
infix_rule env at or a b = disjunction at a b
infix_rule env at (operator code) a b = operation env at (operator_of_code code) a b

-- a cast, and whether it is one to `void *`
abbrev pub cast_rule : (to_void_pointer : Bool) → (at : ℕ) → Checked CType → Checked TypedExpression → Checked TypedExpression
cast_rule true at t r = on r (null_cast at)
cast_rule false at t r = both t r (cast_of at)

abbrev mutual
  -- what an expression gives, where so much of the unit stands before it
  pub tree : Env → Before → Expr → Checked TypedExpression
  -- 6.5.1, 6.4.4, 6.4.5
  tree env b (a_name at x) = named_expression env at x
  tree env b (an_int at n u) = fine (integer_expression n u)
  tree env b (a_char at c) = fine (typed_int c)
  tree env b (a_str at w) = string_expression env b at w
  -- 6.5.17
  tree env b (comma at es) = gives (trees env b es) comma_of
  -- 6.5.3.4
  tree env b (sizeof_type at t) = on (type_named env t) (size_of_type env at (place_of_type t))
  -- 6.5.4
  tree env b (cast at t e) = cast_rule (is_void_pointer t) at (type_named env t) (value_at env (place_of e) (tree env b e))
  -- 6.5.2.2
  tree env b (call at d es) =
      all_three (callee env at d (value_at env (place_of d) (tree env b d))) (site_of env (b.sites + calls d) at) (trees env (after_designator b d) es) (called at)
  -- 6.5.2.3
  tree env b (member at how e x) = access env at (place_of e) how x.name (tree env b e)
  -- 6.5.2.4
  tree env b (postfix at op e) = after_operand env at (place_of e) op (tree env b e)
  -- 6.5.3.1, 6.5.3.4
  tree env b (prefix at op e) =
      before_operand env at (place_of e) op (tree env b e) (tree (in_context env sized) nothing_before e)
  -- 6.5.3.2, 6.5.3.3
  tree env b (unary at op e) = unary_rule env at (place_of e) op (tree env b e)
  -- 6.5.2.1: `a[b]` is `*(a + b)`
  tree env b (index at e f) =
      on (both (value_at env (place_of e) (tree env b e)) (value_at env (place_of f) (tree env (after b e) f)) (sum env at)) (indirection at)
  -- 6.5.5 to 6.5.14
  tree env b (binary at op e f) =
      both (value_at env (place_of e) (tree env b e)) (value_at env (place_of f) (tree env (after b e) f)) (infix_rule env at op)
  -- 6.5.16
  tree env b (assign at op e f) =
      both (place_at (place_of e) (tree env b e)) (value_at env (place_of f) (tree env (after b e) f)) (assignment_by env at op)
  -- 6.5.15
  tree env b (conditional at c e f) =
      all_three (value_at env (place_of c) (tree env b c)) (value_at env (place_of e) (tree env (after b c) e)) (value_at env (place_of f) (tree env (after (after b c) e) f)) (choice at)

  -- the values of expressions
  pub trees : Env → Before → Exprs → Checked (List TypedExpression)
  trees env b no_exprs = fine []
  trees env b (more_exprs e es) = both (value_at env (place_of e) (tree env b e)) (trees env (after b e) es) (λ g gs. fine (g ∷ gs))

  -- the type that a name of a type names (6.7.6)
  pub type_named : Env → TypeName → Checked CType
  type_named env (type_name at s d) = on (type_of_spec env at s) (λ t. declared env d t)

  -- the type that a declarator makes of another one (6.7.5 paragraph 4)
  pub declared : Env → Declarator → CType → Checked CType
  declared env nothing t = fine t
  declared env (named at x) t = fine t
  declared env (pointer at d) t = on (pointer_to at t) (λ u. declared env d u)
  declared env (array at d size) t = on (on (size_in env size) (array_of env at t)) (λ u. declared env d u)
  declared env (function at d ps) t = on (on (parameters (inside env) 0 ps) (function_of at t)) (λ u. declared env d u)

  -- the size in an array declarator, 0 where there is none (6.7.5.2)
  pub size_in : Env → Maybe → Checked ℕ
  size_in env absent = fine 0
  size_in env (there e) =
      on (value_at (in_context env folded) (place_of e) (tree (in_context env folded) nothing_before e)) (array_size (place_of e))

  -- The types of parameters; each name is known behind its declarator (6.2.1 paragraph 7). A parameter has its own number in the body of a
  -- definition alone: in a declarator all have this one, which nothing that is evaluated reads.
  pub parameters : Env → ℕ → Params → Checked CTypes
  parameters env k no_params = fine no_types
  parameters env k (more_params at s d ps) =
      let r : Checked CType = on (on (type_of_spec env at s) (λ t. declared env d t)) (parameter_of (place_or at d)) in
      both (with_name_demands env (name_of d) r) (parameters (behind_parameter env k (name_of d) r) k ps) (λ t ts. fine (more_types t ts))

-- the value of an expression
abbrev pub value : Env → Before → Expr → Checked TypedExpression
value env b e = value_at env (place_of e) (tree env b e)

-- the value of an expression that is constant, which isn't evaluated when the program runs
abbrev pub folded_value : Env → Expr → Checked TypedExpression
folded_value env e = value (in_context env folded) nothing_before e

-- the type that a declaration gives to what a declarator declares
abbrev pub type_declared : Env → (at : ℕ) → Spec → Declarator → Checked CType
type_declared env at s d = on (type_of_spec env at s) (declared env d)

-- the type of a parameter
abbrev pub type_of_parameter : Env → (at : ℕ) → Spec → Declarator → Checked CType
type_of_parameter env at s d = on (type_declared env at s d) (parameter_of (place_or at d))
