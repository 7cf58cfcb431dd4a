-- Which types the operands and the result of an operator have.
use Rattle.std.specs.Prelude.{◌≡◌, ◌⊎◌, ◌≤◌, Bool, true, false, List, Some, slice_get}
use Rattle.c_tree.specs.declared.value.IntType.{IntType}
use Rattle.c_tree.specs.declared.value.IntType.TheVariants.{Char, Uchar, Int, Uint}
use Rattle.c_tree.specs.declared.value.UnOp.{UnOp}
use Rattle.c_tree.specs.declared.value.UnOp.TheVariants.{Minus, Complement, Not}
use Rattle.c_tree.specs.declared.value.BinOp.{BinOp}
use Rattle.c_tree.specs.declared.value.BinOp.TheVariants.{Mul, Div, Rem, Add, Sub, ShiftLeft, ShiftRight, BitAnd, BitXor, BitOr, Less, Greater, LessEqual, GreaterEqual, Equal, NotEqual}
use Rattle.c_tree.specs.Tree.{CType, void, integer, pointer, array, struct, function}
use Rattle.c_tree.specs.Layout.{Structs, cells}
use Rattle.c_tree.specs.Functions.{int}

-- an integer or a pointer (6.2.5 paragraph 21)
abbrev pub IsScalar : CType → Type 0
IsScalar void = ⊥
IsScalar (integer i) = Unit {0}
IsScalar (pointer t) = Unit {0}
IsScalar (array t n) = ⊥
IsScalar (struct s) = ⊥
IsScalar (function r ts) = ⊥

-- what a function may give (6.9.1 paragraph 3): a scalar or nothing, since struct values are not passed
abbrev pub IsResult : CType → Type 0
IsResult void = Unit {0}
IsResult (integer i) = Unit {0}
IsResult (pointer t) = Unit {0}
IsResult (array t n) = ⊥
IsResult (struct s) = ⊥
IsResult (function r ts) = ⊥

-- the size of its objects is known (6.2.5 paragraph 1): an array has an element, and a struct has its definition
abbrev pub IsComplete : Structs → CType → Type 0
IsComplete structs void = ⊥
IsComplete structs (integer i) = Unit {0}
IsComplete structs (pointer t) = Unit {0}
IsComplete structs (array t n) = (1 ≤ n) × IsComplete structs t
IsComplete structs (struct s) = (ts : List CType) × (slice_get structs s ≡ Some (Some ts))
IsComplete structs (function r ts) = ⊥

-- the type of an object of at most 65,536 cells
pub record IsObject (structs : Structs) (t : CType) : Type 0 where
  pub complete : IsComplete structs t
  pub few : cells structs t ≤ 65536

-- what a pointer may lead to where it is dereferenced: an object or a function (6.5.3.2)
abbrev pub IsTarget : Structs → CType → Type 0
IsTarget structs void = ⊥
IsTarget structs (integer i) = Unit {0}
IsTarget structs (pointer t) = Unit {0}
IsTarget structs (array t n) = IsObject structs (array t n)
IsTarget structs (struct s) = IsObject structs (struct s)
IsTarget structs (function r ts) = Unit {0}

-- the integer promotions (6.3.1.1 paragraph 2)
abbrev pub promoted : IntType → IntType
promoted Char = Int
promoted Uchar = Int
promoted Int = Int
promoted Uint = Uint

-- the usual arithmetic conversions (6.3.1.8)
abbrev pub common : IntType → IntType → IntType
common Char j = promoted j
common Uchar j = promoted j
common Int j = promoted j
common Uint j = Uint

-- what the promotions give: int or unsigned int
abbrev pub IsPromoted : IntType → Type 0
IsPromoted Char = ⊥
IsPromoted Uchar = ⊥
IsPromoted Int = Unit {0}
IsPromoted Uint = Unit {0}

-- an integer type
abbrev pub IsIntegerType : CType → Type 0
IsIntegerType t = (i : IntType) × (t ≡ integer i)

-- a pointer to objects of a known size
abbrev pub IsObjectPointer : Structs → CType → Type 0
IsObjectPointer structs t = (u : CType) × (t ≡ pointer u) × IsObject structs u

-- the kinds of binary operators: those whose operands have one type, shifts, comparisons by order, and equality
pub data OperatorKind : Type 0 where
  balanced shift ordering equality : OperatorKind

abbrev pub kind_of : BinOp → OperatorKind
kind_of Mul = balanced
kind_of Div = balanced
kind_of Rem = balanced
kind_of Add = balanced
kind_of Sub = balanced
kind_of ShiftLeft = shift
kind_of ShiftRight = shift
kind_of BitAnd = balanced
kind_of BitXor = balanced
kind_of BitOr = balanced
kind_of Less = ordering
kind_of Greater = ordering
kind_of LessEqual = ordering
kind_of GreaterEqual = ordering
kind_of Equal = equality
kind_of NotEqual = equality

-- the promoted types of two operands: one type, but for a shift (6.5.5 to 6.5.7, 6.5.10 to 6.5.12)
abbrev pub AreOperands : OperatorKind → IntType → IntType → Type 0
AreOperands balanced i j = IsPromoted i × (j ≡ i)
AreOperands shift i j = IsPromoted i × IsPromoted j
AreOperands ordering i j = ⊥
AreOperands equality i j = ⊥

-- arithmetic has the type of its left operand
abbrev pub FitsArithmetic : BinOp → CType → CType → CType → Type 0
FitsArithmetic op t u v = (i j : IntType) × (t ≡ integer i) × (u ≡ integer i) × (v ≡ integer j) × AreOperands (kind_of op) i j

-- `-` and `~` have the promoted type of their operand, and `!` takes a scalar and gives an int (6.5.3.3)
abbrev pub FitsUnary : UnOp → CType → CType → Type 0
FitsUnary Minus t u = (i : IntType) × (t ≡ integer i) × (u ≡ integer i) × IsPromoted i
FitsUnary Complement t u = (i : IntType) × (t ≡ integer i) × (u ≡ integer i) × IsPromoted i
FitsUnary Not t u = (t ≡ int) × IsScalar u

-- two operands of one type: integers; pointers to objects, or for equality any pointers
abbrev pub AreComparable : Structs → OperatorKind → CType → Type 0
AreComparable structs balanced u = ⊥
AreComparable structs shift u = ⊥
AreComparable structs ordering u = ((i : IntType) × (u ≡ integer i) × IsPromoted i) ⊎ IsObjectPointer structs u
AreComparable structs equality u = ((i : IntType) × (u ≡ integer i) × IsPromoted i) ⊎ ((w : CType) × (u ≡ pointer w))

-- a comparison gives an int (6.5.8, 6.5.9)
pub record FitsComparison (structs : Structs) (op : BinOp) (t u v : CType) : Type 0 where
  pub gives : t ≡ int
  pub alike : v ≡ u
  pub comparable : AreComparable structs (kind_of op) u

-- a pointer plus an integer, in either order, or a pointer minus an integer (6.5.6)
abbrev pub FitsPointerAdd : Structs → Bool → Bool → CType → CType → CType → Type 0
FitsPointerAdd structs true subtracted t u v = (u ≡ t) × IsObjectPointer structs t × IsIntegerType v
FitsPointerAdd structs false subtracted t u v = (v ≡ t) × IsObjectPointer structs t × IsIntegerType u × (subtracted ≡ false)

-- the right side of a compound assignment to an integer has the operator's type, where the left side is converted to it (6.5.16.2)
abbrev pub FitsRightSide : OperatorKind → IntType → IntType → Type 0
FitsRightSide balanced i j = j ≡ common i j
FitsRightSide shift i j = IsPromoted j
FitsRightSide ordering i j = ⊥
FitsRightSide equality i j = ⊥

-- a pointer is moved by `+` and `-` alone
abbrev pub MovesPointers : BinOp → Type 0
MovesPointers op = (op ≡ Add) ⊎ (op ≡ Sub)

-- a compound assignment to an integer, or to a pointer, which is moved by an integer (6.5.16.2)
abbrev pub FitsUpdate : Structs → BinOp → CType → CType → Type 0
FitsUpdate structs op t v =
    ((i j : IntType) × (t ≡ integer i) × (v ≡ integer j) × FitsRightSide (kind_of op) i j) ⊎ (MovesPointers op × IsObjectPointer structs t × IsIntegerType v)

-- an array becomes a pointer to its first element, and a function a pointer to it (6.3.2.1)
abbrev pub Decays : Structs → CType → CType → Type 0
Decays structs void t = ⊥
Decays structs (integer i) t = ⊥
Decays structs (pointer u) t = ⊥
Decays structs (array u n) t = t ≡ pointer u
Decays structs (struct s) t = ⊥
Decays structs (function r ts) t = t ≡ pointer (function r ts)
