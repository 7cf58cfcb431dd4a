-- What operators give at each boundary, after C99 6.3.1.3 and 6.5.3.3 to 6.5.12.
use Rattle.std.proofs.Common.{◌≡◌, pos, negsuc, List, [], ◌∷◌, map, refl}
use Rattle.std.specs.Int.{int_wrap}
use Rattle.c_tree.specs.declared.value.IntType.{IntType}
use Rattle.c_tree.specs.declared.value.IntType.TheVariants as t
use Rattle.c_tree.specs.declared.value.UnOp.{UnOp}
use Rattle.c_tree.specs.declared.value.UnOp.TheVariants.{Minus, Complement, Not}
use Rattle.c_tree.specs.declared.value.BinOp.{BinOp}
use Rattle.c_tree.specs.declared.value.BinOp.TheVariants.{Mul, Div, Rem, Add, Sub, ShiftLeft, ShiftRight, BitAnd, BitXor, BitOr, Less, Greater, LessEqual, GreaterEqual, Equal, NotEqual}
use Rattle.c_tree.specs.declared.value.Value.{Value}
use Rattle.c_tree.specs.declared.value.Value.TheVariants.{Int, Uint, Char, Uchar, Null, Indeterminate}
use Rattle.c_tree.specs.Operators.{Answer, gives, undefined, U1, U2, U3, U13, convert, unary, binary}

-- the greatest int
abbrev greatest : Value
greatest = Int (pos 2147483647)

-- the least int
abbrev least : Value
least = Int (negsuc 2147483647)

abbrev minus_one : Value
minus_one = Int (negsuc 0)

abbrev one : Value
one = Int (pos 1)

abbrev zero_int : Value
zero_int = Int (pos 0)

-- an operator at its operands, and what it gives
record Row : Type 0 where
  asked : Answer Value
  wanted : Answer Value

abbrev row : BinOp → Value → Value → Answer Value → Row
row o a b r = record { asked = binary o a b; wanted = r }

abbrev unary_row : UnOp → Value → Answer Value → Row
unary_row o a r = record { asked = unary o a; wanted = r }

abbrev convert_row : IntType → Value → Answer Value → Row
convert_row to a r = record { asked = convert to a; wanted = r }

abbrev AreRight : List Row → Type 0
AreRight rows = map (λ (r : Row). r.asked) rows ≡ map (λ (r : Row). r.wanted) rows

abbrev arithmetic_rows : List Row
arithmetic_rows =
    row Add greatest one (undefined U1)
    ∷ row Add greatest zero_int (gives greatest)
    ∷ row Add least minus_one (undefined U1)
    ∷ row Sub least one (undefined U1)
    ∷ row Sub zero_int least (undefined U1)
    ∷ row Sub minus_one least (gives greatest)
    ∷ row Mul (Int (pos 65536)) (Int (pos 32768)) (undefined U1)
    ∷ row Mul (Int (pos 65536)) (Int (negsuc 32767)) (gives least)
    ∷ row Mul least minus_one (undefined U1)
    ∷ row Div (Int (negsuc 6)) (Int (pos 2)) (gives (Int (negsuc 2)))  -- −7 / 2 is −3
    ∷ row Div (Int (pos 7)) (Int (negsuc 1)) (gives (Int (negsuc 2)))  -- 7 / −2 is −3
    ∷ row Div least minus_one (undefined U1)
    ∷ row Div one zero_int (undefined U2)
    ∷ row Rem (Int (negsuc 6)) (Int (pos 2)) (gives minus_one)  -- −7 % 2 is −1
    ∷ row Rem (Int (pos 7)) (Int (negsuc 1)) (gives one)  -- 7 % −2 is 1
    ∷ row Rem least minus_one (undefined U1)
    ∷ row Rem one zero_int (undefined U2)
    ∷ row Add (Uint 4294967295) (Uint 1) (gives (Uint 0))
    ∷ row Sub (Uint 0) (Uint 1) (gives (Uint 4294967295))
    ∷ row Mul (Uint 65536) (Uint 65537) (gives (Uint 65536))
    ∷ row Div (Uint 4294967295) (Uint 2) (gives (Uint 2147483647))
    ∷ row Rem (Uint 7) (Uint 0) (undefined U2)
    ∷ row Div (Uint 7) (Uint 0) (undefined U2)
    ∷ []

arithmetic_is_right : AreRight arithmetic_rows
arithmetic_is_right = refl

abbrev shift_rows : List Row
shift_rows =
    row ShiftLeft one (Int (pos 30)) (gives (Int (pos 1073741824)))
    ∷ row ShiftLeft one (Int (pos 31)) (undefined U3)
    ∷ row ShiftLeft one (Int (pos 32)) (undefined U3)
    ∷ row ShiftLeft one minus_one (undefined U3)
    ∷ row ShiftLeft minus_one zero_int (undefined U3)
    ∷ row ShiftLeft zero_int (Uint 31) (gives zero_int)
    ∷ row ShiftLeft (Uint 3) (Int (pos 31)) (gives (Uint 2147483648))
    ∷ row ShiftLeft (Uint 1) (Uint 32) (undefined U3)
    ∷ row ShiftRight (Int (negsuc 6)) one (gives (Int (negsuc 3)))  -- −7 >> 1 is −4
    ∷ row ShiftRight minus_one (Int (pos 31)) (gives minus_one)
    ∷ row ShiftRight one (Int (pos 32)) (undefined U3)
    ∷ row ShiftRight (Uint 4294967295) (Int (pos 31)) (gives (Uint 1))
    ∷ row ShiftRight (Uint 1) minus_one (undefined U3)
    ∷ []

shifts_are_right : AreRight shift_rows
shifts_are_right = refl

abbrev bit_rows : List Row
bit_rows =
    row BitAnd minus_one (Int (pos 255)) (gives (Int (pos 255)))
    ∷ row BitOr least one (gives (Int (negsuc 2147483646)))
    ∷ row BitXor minus_one (Int (pos 1)) (gives (Int (negsuc 1)))
    ∷ row BitAnd (Uint 4042322160) (Uint 252645135) (gives (Uint 0))
    ∷ row BitOr (Uint 4042322160) (Uint 252645135) (gives (Uint 4294967295))
    ∷ row BitXor (Uint 4294967295) (Uint 1) (gives (Uint 4294967294))
    ∷ []

bits_are_right : AreRight bit_rows
unfolding int_wrap
bits_are_right = refl

abbrev comparison_rows : List Row
comparison_rows =
    row Less least zero_int (gives one)
    ∷ row Less (Uint 2147483648) (Uint 0) (gives zero_int)
    ∷ row Greater greatest least (gives one)
    ∷ row LessEqual one one (gives one)
    ∷ row GreaterEqual minus_one zero_int (gives zero_int)
    ∷ row Equal minus_one minus_one (gives one)
    ∷ row Equal (Uint 1) (Uint 2) (gives zero_int)
    ∷ row NotEqual (Uint 1) (Uint 2) (gives one)
    ∷ row Add one (Uint 1) (undefined U13)
    ∷ row Less one Null (undefined U13)
    ∷ row Add Indeterminate one (undefined U13)
    ∷ row Add (Char (pos 1)) one (undefined U13)
    ∷ []

comparisons_are_right : AreRight comparison_rows
comparisons_are_right = refl

abbrev unary_rows : List Row
unary_rows =
    unary_row Minus least (undefined U1)
    ∷ unary_row Minus greatest (gives (Int (negsuc 2147483646)))
    ∷ unary_row Minus (Uint 1) (gives (Uint 4294967295))
    ∷ unary_row Complement zero_int (gives minus_one)
    ∷ unary_row Complement least (gives greatest)
    ∷ unary_row Complement (Uint 0) (gives (Uint 4294967295))
    ∷ unary_row Not (Char (pos 0)) (gives one)
    ∷ unary_row Not (Uint 4294967295) (gives zero_int)
    ∷ unary_row Minus (Uchar 1) (undefined U13)
    ∷ unary_row Not Null (undefined U13)
    ∷ []

unary_is_right : AreRight unary_rows
unary_is_right = refl

abbrev convert_rows : List Row
convert_rows =
    convert_row t.Char (Int (pos 200)) (gives (Char (negsuc 55)))  -- −56
    ∷ convert_row t.Char (Int (pos 127)) (gives (Char (pos 127)))
    ∷ convert_row t.Char (Int (pos 128)) (gives (Char (negsuc 127)))
    ∷ convert_row t.Uchar minus_one (gives (Uchar 255))
    ∷ convert_row t.Uchar (Int (pos 256)) (gives (Uchar 0))
    ∷ convert_row t.Int (Uint 4294967295) (gives minus_one)
    ∷ convert_row t.Int (Uint 2147483648) (gives least)
    ∷ convert_row t.Int (Char (negsuc 127)) (gives (Int (negsuc 127)))
    ∷ convert_row t.Uint minus_one (gives (Uint 4294967295))
    ∷ convert_row t.Uint least (gives (Uint 2147483648))
    ∷ convert_row t.Uint Null (undefined U13)
    ∷ []

conversions_are_right : AreRight convert_rows
unfolding int_wrap
conversions_are_right = refl
