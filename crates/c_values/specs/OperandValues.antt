-- Which values operators are given.
use Rattle.std.specs.Prelude.{◌≡◌}
use Rattle.c_tree.specs.declared.value.UnOp.{UnOp}
use Rattle.c_tree.specs.declared.value.UnOp.TheVariants.{Minus, Complement, Not}
use Rattle.c_tree.specs.declared.value.BinOp.{BinOp}
use Rattle.c_tree.specs.declared.value.Value.{Value}
use Rattle.c_tree.specs.declared.value.Value.TheVariants.{Indeterminate, Int, Uint, Char, Uchar, Null, Func, At}
use Rattle.c_tree.specs.Operands.{shift, kind_of}

-- an integer
abbrev pub IsInteger : Value → Type 0
IsInteger (Int z) = Unit {0}
IsInteger (Uint n) = Unit {0}
IsInteger (Char z) = Unit {0}
IsInteger (Uchar n) = Unit {0}
IsInteger Indeterminate = ⊥
IsInteger Null = ⊥
IsInteger (Func f) = ⊥
IsInteger (At q) = ⊥

-- an integer of a promoted type (6.3.1.1 paragraph 2)
abbrev pub IsPromotedInteger : Value → Type 0
IsPromotedInteger (Int z) = Unit {0}
IsPromotedInteger (Uint n) = Unit {0}
IsPromotedInteger (Char z) = ⊥
IsPromotedInteger (Uchar n) = ⊥
IsPromotedInteger Indeterminate = ⊥
IsPromotedInteger Null = ⊥
IsPromotedInteger (Func f) = ⊥
IsPromotedInteger (At q) = ⊥

-- the operand of `-` and `~` is of a promoted type, and that of `!` any integer (6.5.3.3)
abbrev pub IsUnaryOperand : UnOp → Value → Type 0
IsUnaryOperand Minus x = IsPromotedInteger x
IsUnaryOperand Complement x = IsPromotedInteger x
IsUnaryOperand Not x = IsInteger x

-- the right operand beside an int: an int, or for a shift an unsigned int too
abbrev pub IsBesideInt : BinOp → Value → Type 0
IsBesideInt op (Int z) = Unit {0}
IsBesideInt op (Uint n) = kind_of op ≡ shift
IsBesideInt op (Char z) = ⊥
IsBesideInt op (Uchar n) = ⊥
IsBesideInt op Indeterminate = ⊥
IsBesideInt op Null = ⊥
IsBesideInt op (Func f) = ⊥
IsBesideInt op (At q) = ⊥

-- the right operand beside an unsigned int: an unsigned int, or for a shift an int too
abbrev pub IsBesideUint : BinOp → Value → Type 0
IsBesideUint op (Int z) = kind_of op ≡ shift
IsBesideUint op (Uint n) = Unit {0}
IsBesideUint op (Char z) = ⊥
IsBesideUint op (Uchar n) = ⊥
IsBesideUint op Indeterminate = ⊥
IsBesideUint op Null = ⊥
IsBesideUint op (Func f) = ⊥
IsBesideUint op (At q) = ⊥

-- the operands are of one promoted type, or for a shift of two (6.5.5 to 6.5.12)
abbrev pub AreBinaryOperands : BinOp → Value → Value → Type 0
AreBinaryOperands op (Int z) y = IsBesideInt op y
AreBinaryOperands op (Uint n) y = IsBesideUint op y
AreBinaryOperands op (Char z) y = ⊥
AreBinaryOperands op (Uchar n) y = ⊥
AreBinaryOperands op Indeterminate y = ⊥
AreBinaryOperands op Null y = ⊥
AreBinaryOperands op (Func f) y = ⊥
AreBinaryOperands op (At q) y = ⊥
