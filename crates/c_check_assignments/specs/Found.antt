-- For private contracts and proofs alone: what is found of an update by the types of its sides, and what it gives then.
use Rattle.std.specs.Prelude.{Bool}
use Rattle.c_tree.specs.declared.value.BinOp.{BinOp}
use Rattle.c_rules.specs.Assignments.{updated}
use Rattle.c_rules.specs.Conversions.{converted_to}
use Rattle.c_rules.specs.TypedExpression.{TypedExpression, tree_of}
use Rattle.c_check_assignments.specs.declared.updates.RightSide.{RightSide}
use Rattle.c_check_assignments.specs.declared.updates.RightSide.TheVariants as sides

abbrev pub update_as : RightSide → BinOp → (old : Bool) → TypedExpression → TypedExpression → TypedExpression
update_as (sides.Converted i) op old p v = updated op old p (tree_of (converted_to i v))
update_as sides.Distance op old p v = updated op old p (tree_of v)
