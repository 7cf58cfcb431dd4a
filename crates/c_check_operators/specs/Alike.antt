-- For private contracts and proofs alone: what two operands are that may be alike.
use Rattle.c_rules.specs.BinaryExpressions.{Alike, alike_integers, alike_pointers, unlike}
use Rattle.c_rules.specs.Conversions.{null_of}
use Rattle.c_rules.specs.TypedExpression.{TypedExpression}
use Rattle.c_check_operators.specs.declared.alike.Alike.{Alike as AlikeTree}
use Rattle.c_check_operators.specs.declared.alike.Alike.TheVariants as alikes
use Rattle.c_check_operators.specs.declared.alike.NullSide.{NullSide}
use Rattle.c_check_operators.specs.declared.alike.NullSide.TheVariants as sides

-- two pointers, one of which a null pointer of the other one's type may stand for
abbrev pub pointer_left : NullSide → TypedExpression → TypedExpression → TypedExpression
pointer_left sides.Neither a b = a
pointer_left sides.Left a b = null_of b.ctype
pointer_left sides.Right a b = a

abbrev pub pointer_right : NullSide → TypedExpression → TypedExpression → TypedExpression
pointer_right sides.Neither a b = b
pointer_right sides.Left a b = b
pointer_right sides.Right a b = null_of a.ctype

abbrev pub alike_as : AlikeTree → TypedExpression → TypedExpression → Alike
alike_as (alikes.Integers i) a b = alike_integers i
alike_as (alikes.Pointers side) a b = alike_pointers (pointer_left side a b) (pointer_right side a b)
alike_as alikes.Unlike a b = unlike
