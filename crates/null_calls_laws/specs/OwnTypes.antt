-- Values of scalar types in objects of their types (6.5.16.1).
use Rattle.std.specs.Prelude.{◌≡◌, true}
use Rattle.c_tree.specs.Tree.{CType, Expr}
use Rattle.c_tree.specs.Operands.{IsScalar}
use Rattle.c_rules.specs.TypedExpression.{not_constant, typed_value}
use Rattle.c_rules.specs.Conversions.{fits, assigned}

-- such a value that isn't constant may be assigned, and is converted to itself
pub record FitsOwnType (t : CType) (e : Expr) : Type 0 where
  pub fitting : fits t (typed_value t e not_constant) ≡ true
  pub same : assigned t (typed_value t e not_constant) ≡ typed_value t e not_constant

abbrev pub ValuesFitTheirTypes : Type 0
ValuesFitTheirTypes = (t : CType) (e : Expr) → IsScalar t → FitsOwnType t e
