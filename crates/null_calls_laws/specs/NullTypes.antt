-- Null pointer constants (6.3.2.3 paragraph 3).
use Rattle.std.specs.Prelude.{◌≡◌, true}
use Rattle.c_tree.specs.Tree.{CType, void, integer, pointer}
use Rattle.c_syntax.specs.Tree.{Expr}
use Rattle.c_rules.specs.Checked.{fine}
use Rattle.c_rules.specs.Scopes.{Env, Before}
use Rattle.c_rules.specs.TypedExpression.{TypedExpression, is_null}
use Rattle.c_rules.specs.Expressions.{value}

-- an integer type, or void *
abbrev pub IsNullType : CType → Type 0
IsNullType (integer i) = Unit {0}
IsNullType (pointer void) = Unit {0}
IsNullType t = ⊥

-- a value that is a null pointer constant has such a type
abbrev pub NullsHaveTheirTypes : Type 0
NullsHaveTheirTypes = (env : Env) (b : Before) (x : Expr) (g : TypedExpression) → value env b x ≡ fine g → is_null g ≡ true → IsNullType g.ctype
