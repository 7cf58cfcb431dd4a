-- Laws on the rules on expressions: operands that have other trees give the same with another tree, which is the instrumented one.
use Rattle.std.specs.Prelude.{◌≢◌, ℕ, ◌+◌, Bool, List, ◌++◌, length}
use Rattle.c_tree.specs.declared.value.BinOp.{BinOp}
use Rattle.c_tree.specs.Tree.{CType, void, Expr, Program}
use Rattle.c_syntax.specs.Tree.{Infix}
use Rattle.c_rules.specs.Names.{Name}
use Rattle.c_rules.specs.Scopes.{Env}
use Rattle.c_rules.specs.TypedExpression.{TypedExpression}
use Rattle.c_rules.specs.Conversions.{valued}
use Rattle.c_rules.specs.PostfixExpressions.{member_of}
use Rattle.c_rules.specs.UnaryExpressions.{address, indirection, unary_of_value, cast_of, null_cast}
use Rattle.c_rules.specs.BinaryExpressions.{sum, choice}
use Rattle.c_rules.specs.Assignments.{assignable, assignment_by, step}
use Rattle.c_rules.specs.Expressions.{infix_rule}
use Rattle.null_calls_laws.specs.Remade.{remade, IsRemade, Follows}

module _ (p : Program) (k : ℕ) where
  -- the rules with one operand, whose temporaries have the types ts
  pub record OneFollows (ts : List CType) (g : TypedExpression) (x : Expr) : Type 0 where
    pub values : (env : Env) (at : ℕ) → Follows p k ts (valued env at g) (valued env at (remade g x))
    pub places : (at : ℕ) → Follows p k ts (assignable at g) (assignable at (remade g x))
    pub members : (env : Env) (at : ℕ) (y : Name) → Follows p k ts (member_of env at y g) (member_of env at y (remade g x))
    pub addresses : (at place : ℕ) → Follows p k ts (address at place g) (address at place (remade g x))
    pub indirections : (at : ℕ) → Follows p k ts (indirection at g) (indirection at (remade g x))
    pub unary_operators : (at code : ℕ) → Follows p k ts (unary_of_value at code g) (unary_of_value at code (remade g x))
    pub casts : (at : ℕ) (t : CType) → t ≢ void → Follows p k ts (cast_of at t g) (cast_of at t (remade g x))
    pub null_casts : (at : ℕ) → Follows p k ts (null_cast at g) (null_cast at (remade g x))
    pub steps : (env : Env) (at : ℕ) (op : BinOp) (old : Bool) → Follows p k ts (step env at op old g) (step env at op old (remade g x))

  -- the rules with two operands, of which the second one's temporaries are numbered after those of the first one
  pub record TwoFollow (ts us : List CType) (a b : TypedExpression) (x y : Expr) : Type 0 where
    pub sums : (env : Env) (at : ℕ) → Follows p k (ts ++ us) (sum env at a b) (sum env at (remade a x) (remade b y))
    pub operators : (env : Env) (at : ℕ) (op : Infix) → Follows p k (ts ++ us) (infix_rule env at op a b) (infix_rule env at op (remade a x) (remade b y))
    pub assignments : (env : Env) (at code : ℕ) → Follows p k (ts ++ us) (assignment_by env at code a b) (assignment_by env at code (remade a x) (remade b y))

abbrev pub OperandsFollow : Type 0
OperandsFollow = (p : Program) (k : ℕ) (ts : List CType) (g : TypedExpression) (x : Expr) → IsRemade p k ts g x → OneFollows p k ts g x

abbrev pub PairsFollow : Type 0
PairsFollow = (p : Program) (k : ℕ) (ts us : List CType) (a b : TypedExpression) (x y : Expr) → IsRemade p k ts a x → IsRemade p (k + length ts) us b y → TwoFollow p k ts us a b x y

-- `?:`
abbrev pub ChoicesFollow : Type 0
ChoicesFollow =
    (p : Program) (k : ℕ) (zs ts us : List CType) (at : ℕ) (c a b : TypedExpression) (w x y : Expr) → IsRemade p k zs c w → IsRemade p (k + length zs) ts a x → IsRemade p ((k + length zs) + length ts) us b y → Follows p k (zs ++ (ts ++ us)) (choice at c a b) (choice at (remade c w) (remade a x) (remade b y))
