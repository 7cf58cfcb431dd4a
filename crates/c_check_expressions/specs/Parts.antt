-- For private contracts and proofs alone: parts of declarators, scopes that only grew, and lists that a loop goes on.
use Rattle.std.specs.Prelude.{◌≡◌, ℕ, List, [], ◌∷◌, ◌++◌, Option, Some, None}
use Rattle.std.specs.Borrow.{Bor}
use Rattle.c_syntax.specs.declared.tree.Param.{Param as ParamTree, out-Param}
use Rattle.c_syntax.specs.Tree.{Ident, Expr, a_name, member, postfix, prefix, sizeof, unary, index, binary, assign}
use Rattle.c_syntax.specs.View.{spec_of}
use Rattle.c_syntax.specs.Writes.{declarator_in}
use Rattle.c_tree.specs.declared.tree.CType.{CType as TypeTree}
use Rattle.c_tree.specs.Tree.{CType, CTypes, more_types}
use Rattle.c_tree.specs.View.{ctype_of}
use Rattle.c_rules.specs.Checked.{Checked, fine, on}
use Rattle.c_rules.specs.Names.{Name}
use Rattle.c_rules.specs.Scopes.{Env, Binding, Meaning, a_function}
use Rattle.c_rules.specs.TypedExpression.{TypedExpression}
use Rattle.c_rules.specs.Declarators.{name_of}
use Rattle.c_rules.specs.Assignments.{assignable, assignment_by}
use Rattle.c_rules.specs.Conversions.{valued}
use Rattle.c_rules.specs.BinaryExpressions.{sum}
use Rattle.c_rules.specs.Expressions.{type_of_parameter, access, after_operand, before_operand, infix_rule, unary_rule}
use Rattle.c_rules.specs.UnaryExpressions.{indirection}
use Rattle.c_check_counts.specs.Environment.{Environment}
use Rattle.c_check_counts.specs.Bound.{Bound}

-- the type and the name of a parameter
abbrev pub type_of_param : Env → ParamTree → Checked CType
type_of_param env p = type_of_parameter env (out-Param p).at (spec_of (out-Param p).spec) (declarator_in (out-Param p).declarator)

abbrev pub name_of_param : ParamTree → Option Ident
name_of_param p = name_of (declarator_in (out-Param p).declarator)

-- names were declared, and nothing else changed
abbrev pub Declares : Environment → Environment → Type 0
Declares old new = (inner : List Bound) × (new ≡ record old { names = inner ++ old.names })

-- types, and others behind them
abbrev pub types_before : List TypeTree → CTypes → CTypes
types_before [] ts = ts
types_before (t ∷ done) ts = more_types (ctype_of t) (types_before done ts)

abbrev pub onto_types : List TypeTree → Checked CTypes → Checked CTypes
onto_types done r = on r (λ ts. fine (types_before done ts))

abbrev pub onto_givens : List TypedExpression → Checked (List TypedExpression) → Checked (List TypedExpression)
onto_givens done r = on r (λ gs. fine (done ++ gs))

-- the name that an expression is
abbrev pub named_by : Expr → Option Name
named_by (a_name at x) = Some x
named_by e = None

abbrev pub name_seen : Option (Bor (List ℕ)) → Option Name
name_seen None = None
name_seen (Some x) = Some x.now

-- the type of the function that a name means
abbrev pub function_of_meaning : Meaning → Option CType
function_of_meaning (a_function t d) = Some t
function_of_meaning m = None

abbrev pub function_meant : Option Binding → Option CType
function_meant None = None
function_meant (Some b) = function_of_meaning b.means

abbrev pub type_seen : Option (Bor TypeTree) → Option CType
type_seen None = None
type_seen (Some t) = Some (ctype_of t.now)

-- what a form with one operand that is evaluated, which stands at a place, gives of it
abbrev pub one_rule : Env → Expr → (place : ℕ) → TypedExpression → Checked TypedExpression
one_rule env (member at how e x) place g = access env at place how x.name (fine g)
one_rule env (postfix at op e) place g = after_operand env at place op (fine g)
one_rule env (prefix at sizeof e) place g = fine g
one_rule env (prefix at op e) place g = before_operand env at place op (fine g) (fine g)
one_rule env (unary at op e) place g = unary_rule env at place op (fine g)
one_rule env e place g = fine g

-- what the first operand of a form is: the target of an assignment, or else a value
abbrev pub first_rule : Env → Expr → (place : ℕ) → TypedExpression → Checked TypedExpression
first_rule env (assign at op e f) place g = assignable place g
first_rule env e place g = valued env place g

-- what a form with two operands gives of them
abbrev pub two_rule : Env → Expr → TypedExpression → TypedExpression → Checked TypedExpression
two_rule env (index at e f) a b = on (sum env at a b) (indirection at)
two_rule env (binary at op e f) a b = infix_rule env at op a b
two_rule env (assign at op e f) a b = assignment_by env at op a b
two_rule env e a b = fine a
