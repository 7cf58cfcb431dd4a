-- Operators give values of the types that typed trees say, or one of the kinds U1 to U3.
use Rattle.std.specs.Prelude.{◌≡◌, ◌⊎◌, ◌≤◌}
use Rattle.c_tree.specs.declared.value.IntType.{IntType}
use Rattle.c_tree.specs.declared.value.UnOp.{UnOp}
use Rattle.c_tree.specs.declared.value.BinOp.{BinOp}
use Rattle.c_tree.specs.declared.value.Value.{Value}
use Rattle.c_tree.specs.Tree.{CType, integer}
use Rattle.c_tree.specs.Functions.{int}
use Rattle.c_tree.specs.Operands.{IsPromoted, ordering, equality, kind_of, FitsArithmetic, FitsUnary}
use Rattle.c_tree.specs.Kinds.{IsConstant}
use Rattle.c_tree.specs.Operators.{Answer, gives, undefined, convert, unary, binary}

-- the answer is a value of the type, or one of the kinds U1 to U3
abbrev pub IsAnswer : CType → Answer Value → Type 0
IsAnswer t (gives x) = IsConstant t x
IsAnswer t (undefined kind) = (1 ≤ kind) × (kind ≤ 3)

-- the answer is a value of the type
abbrev pub IsGiven : CType → Answer Value → Type 0
IsGiven t (gives x) = IsConstant t x
IsGiven t (undefined kind) = ⊥

-- conversions of integers
abbrev pub ConversionsFit : Type 0
ConversionsFit = (i to : IntType) (x : Value) → IsConstant (integer i) x → IsGiven (integer to) (convert to x)

-- unary operators on integers
abbrev pub UnaryFits : Type 0
UnaryFits =
    (op : UnOp) (t : CType) (i : IntType) (x : Value) → FitsUnary op t (integer i) → IsConstant (integer i) x → IsAnswer t (unary op x)

-- arithmetic
abbrev pub ArithmeticFits : Type 0
ArithmeticFits =
    (op : BinOp) (t u v : CType) (x y : Value) → FitsArithmetic op t u v → IsConstant u x → IsConstant v y → IsAnswer t (binary op x y)

-- comparisons of integers
abbrev pub ComparisonsFit : Type 0
ComparisonsFit =
    (op : BinOp) (i : IntType) (x y : Value) → (kind_of op ≡ ordering) ⊎ (kind_of op ≡ equality) → IsPromoted i → IsConstant (integer i) x → IsConstant (integer i) y → IsGiven int (binary op x y)
