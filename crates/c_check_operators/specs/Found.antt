-- For private contracts and proofs alone: what is found of two operands by their types, and what they give then.
use Rattle.std.specs.Prelude.{Bool, true, false, neg_ℤ}
use Rattle.c_tree.specs.Tree.{pointer_add}
use Rattle.c_rules.specs.BinaryExpressions.{calculated, shifted, difference, compared_integers, compared_pointers}
use Rattle.c_rules.specs.Constants.{constant_moved}
use Rattle.c_rules.specs.TypedExpression.{TypedExpression, typed_value, tree_of}
use Rattle.c_check_operators.specs.Alike.{pointer_left, pointer_right}
use Rattle.c_check_operators.specs.declared.finding.Operation.{Operation}
use Rattle.c_check_operators.specs.declared.finding.Operation.TheVariants as operations

-- a pointer plus an integer, in this order in the text or in the other one
abbrev pub moved_on : (pointer_first : Bool) → TypedExpression → TypedExpression → TypedExpression
moved_on true p k =
    typed_value p.ctype (pointer_add p.ctype true false (tree_of p) (tree_of k)) (constant_moved p.constant (λ z. z) k.constant)
moved_on false p k =
    typed_value p.ctype (pointer_add p.ctype false false (tree_of k) (tree_of p)) (constant_moved p.constant (λ z. z) k.constant)

-- a pointer minus an integer
abbrev pub moved_back : TypedExpression → TypedExpression → TypedExpression
moved_back p k =
    typed_value p.ctype (pointer_add p.ctype true true (tree_of p) (tree_of k)) (constant_moved p.constant (λ z. neg_ℤ z) k.constant)

abbrev pub operation_as : Operation → TypedExpression → TypedExpression → TypedExpression
operation_as (operations.Arithmetic op i) a b = calculated op i a b
operation_as (operations.Shift op i j) a b = shifted op i j a b
operation_as (operations.OfIntegers op i) a b = compared_integers op i a b
operation_as (operations.OfPointers op side) a b = compared_pointers op (pointer_left side a b) (pointer_right side a b)
operation_as operations.PointerPlus a b = moved_on true a b
operation_as operations.PlusPointer a b = moved_on false b a
operation_as operations.PointerMinus a b = moved_back a b
operation_as operations.Difference a b = difference a b
