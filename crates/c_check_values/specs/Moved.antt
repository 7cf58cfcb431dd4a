-- For private contracts and proofs alone: values that are moved.
use Rattle.std.specs.Prelude.{ℤ}
use Rattle.c_tree.specs.declared.value.Value.{Value}
use Rattle.c_tree.specs.declared.value.Value.TheVariants.{At}
use Rattle.c_check_scopes.specs.TypedExpression.{Constant, undefined}
use Rattle.c_check_scopes.specs.Constants.{moved}

-- a pointer to an object is moved, and no other value
abbrev pub moved_value : Value → ℤ → Constant
moved_value (At q) z = moved q z
moved_value v z = undefined
