-- What operators on integers give, as tables over whole numbers (6.3.1, 6.5.3.3, 6.5.5 to 6.5.12).
use Rattle.std.specs.Prelude.{ℕ, ◌^◌, ℤ, pos, negsuc, ◌+ℤ◌, ◌-ℤ◌, ◌*ℤ◌, neg_ℤ, Bool, true, false, not, ◌&&◌, int_lt, int_le, int_div, int_rem, unsigned_abs, bit_and, bit_or, bit_xor}
use Rattle.std.specs.Int.{w8, w32, int_wrap, int_rem_euclid, int_shr}
use Rattle.std.specs.Ordering.{int_eq}
use Rattle.c_tree.specs.declared.value.IntType.{IntType}
use Rattle.c_tree.specs.declared.value.IntType.TheVariants.{Char, Uchar, Int, Uint}
use Rattle.c_tree.specs.declared.value.UnOp.{UnOp}
use Rattle.c_tree.specs.declared.value.UnOp.TheVariants.{Minus, Complement, Not}
use Rattle.c_tree.specs.declared.value.BinOp.{BinOp}
use Rattle.c_tree.specs.declared.value.BinOp.TheVariants.{Mul, Div, Rem, Add, Sub, ShiftLeft, ShiftRight, BitAnd, BitXor, BitOr, Less, Greater, LessEqual, GreaterEqual, Equal, NotEqual}
use Rattle.c_tree.specs.declared.value.Value.{Value}
use Rattle.c_tree.specs.declared.value.Value.TheVariants as v
use Rattle.c_tree.specs.Operands.{OperatorKind, balanced, shift, ordering, equality, kind_of}

-- what a step gives, or the kind of undefined behaviour that it meets, by its number
pub data Answer (A : Type 0) : Type 0 where
  gives : A → Answer A
  undefined : ℕ → Answer A

-- the second step on what the first gives
abbrev pub and_then : {A B : Type 0} → Answer A → (A → Answer B) → Answer B
and_then (gives a) f = f a
and_then (undefined kind) f = undefined kind

-- a signed result is out of range (6.5 paragraph 5)
abbrev pub U1 : ℕ
U1 = 1

-- a divisor is zero (6.5.5 paragraph 5)
abbrev pub U2 : ℕ
U2 = 2

-- a shift is undefined (6.5.7 paragraphs 3 and 4)
abbrev pub U3 : ℕ
U3 = 3

-- a value has another kind than its type
abbrev pub U13 : ℕ
U13 = 13

-- the number of the low bits of a whole number in two's complement
abbrev pub low_bits : ℕ → ℤ → ℕ
low_bits bits z = unsigned_abs (int_rem_euclid z (pos (2 ^ bits)))

-- the value of an integer type that has the low bits of the number (6.3.1.3)
abbrev pub value_of : IntType → ℤ → Value
value_of Char z = v.Char (int_wrap w8 z)
value_of Uchar z = v.Uchar (low_bits 8 z)
value_of Int z = v.Int (int_wrap w32 z)
value_of Uint z = v.Uint (low_bits 32 z)

-- the next step on the number of an integer
abbrev pub on_number : {A : Type 0} → Value → (ℤ → Answer A) → Answer A
on_number v.Indeterminate f = undefined U13
on_number (v.Int z) f = f z
on_number (v.Uint n) f = f (pos n)
on_number (v.Char z) f = f z
on_number (v.Uchar n) f = f (pos n)
on_number v.Null f = undefined U13
on_number (v.Func f) g = undefined U13
on_number (v.At q) f = undefined U13

-- the conversion of an integer to an integer type (6.3.1.3)
abbrev pub convert : IntType → Value → Answer Value
convert to x = on_number x (λ z. gives (value_of to z))

-- whether an int can have the number
abbrev pub fits_int : ℤ → Bool
fits_int z = int_le (negsuc 2147483647) z && int_le z (pos 2147483647)

abbrev pub fitting : Bool → ℤ → ℕ → Answer Value
fitting true z kind = gives (v.Int z)
fitting false z kind = undefined kind

-- the result of arithmetic that has this number: an int in range, or an unsigned int modulo 2^32 (6.2.5 paragraph 9, 6.5 paragraph 5)
abbrev pub settle : IntType → ℤ → Answer Value
settle Char z = undefined U13
settle Uchar z = undefined U13
settle Int z = fitting (fits_int z) z U1
settle Uint z = gives (v.Uint (low_bits 32 z))

-- an int: 1 or 0 (6.5.8 paragraph 6)
abbrev pub truth : Bool → Answer Value
truth true = gives (v.Int (pos 1))
truth false = gives (v.Int (pos 0))

abbrev pub divided : Bool → Answer Value → Answer Value
divided true a = undefined U2
divided false a = a

-- division where the divisor is not zero
abbrev pub unless_zero : ℤ → Answer Value → Answer Value
unless_zero y a = divided (int_eq y (pos 0)) a

abbrev pub shifted : Bool → Answer Value → Answer Value
shifted true a = a
shifted false a = undefined U3

-- a shift by so many bits, from 0 to 31
abbrev pub shift_by : ℤ → (ℕ → Answer Value) → Answer Value
shift_by y f = shifted (int_le (pos 0) y && int_le y (pos 31)) (f (unsigned_abs y))

-- a left shift; that of an int is defined where neither it nor the result is out of range (6.5.7 paragraph 4)
abbrev pub shift_left : IntType → ℤ → ℕ → Answer Value
shift_left Char x k = undefined U13
shift_left Uchar x k = undefined U13
shift_left Int x k = fitting (int_le (pos 0) x && fits_int (x *ℤ pos (2 ^ k))) (x *ℤ pos (2 ^ k)) U3
shift_left Uint x k = settle Uint (x *ℤ pos (2 ^ k))

-- an operator on each bit of two numbers of 32 bits (6.5.10 to 6.5.12)
abbrev pub on_bits : (ℕ → ℕ → ℕ) → IntType → ℤ → ℤ → Answer Value
on_bits f t x y = gives (value_of t (pos (f (low_bits 32 x) (low_bits 32 y))))

-- the table of binary operators: what they give on numbers of this promoted type, for a shift the left one
abbrev pub table_of : BinOp → IntType → ℤ → ℤ → Answer Value
-- 6.5.5
table_of Mul t x y = settle t (x *ℤ y)
-- the quotient without its fraction
table_of Div t x y = unless_zero y (settle t (int_div x y))
-- what is left by a quotient that is in range
table_of Rem t x y = unless_zero y (and_then (settle t (int_div x y)) (λ q. settle t (int_rem x y)))
-- 6.5.6
table_of Add t x y = settle t (x +ℤ y)
table_of Sub t x y = settle t (x -ℤ y)
-- 6.5.7
table_of ShiftLeft t x y = shift_by y (shift_left t x)
-- the quotient by a power of two, rounded down
table_of ShiftRight t x y = shift_by y (λ k. settle t (int_shr x k))
-- 6.5.10 to 6.5.12
table_of BitAnd t x y = on_bits bit_and t x y
table_of BitXor t x y = on_bits bit_xor t x y
table_of BitOr t x y = on_bits bit_or t x y
-- 6.5.8
table_of Less t x y = truth (int_lt x y)
table_of Greater t x y = truth (int_lt y x)
table_of LessEqual t x y = truth (int_le x y)
table_of GreaterEqual t x y = truth (int_le y x)
-- 6.5.9
table_of Equal t x y = truth (int_eq x y)
table_of NotEqual t x y = truth (not (int_eq x y))

-- an int and an unsigned int are operands of a shift alone
abbrev pub where_shift : OperatorKind → Answer Value → Answer Value
where_shift balanced a = undefined U13
where_shift shift a = a
where_shift ordering a = undefined U13
where_shift equality a = undefined U13

-- a binary operator on two integers of promoted types
abbrev pub binary : BinOp → Value → Value → Answer Value
binary op (v.Int x) (v.Int y) = table_of op Int x y
binary op (v.Int x) (v.Uint n) = where_shift (kind_of op) (table_of op Int x (pos n))
binary op (v.Uint m) (v.Int y) = where_shift (kind_of op) (table_of op Uint (pos m) y)
binary op (v.Uint m) (v.Uint n) = table_of op Uint (pos m) (pos n)
binary op _ _ = undefined U13

-- `-` and `~` on numbers of a promoted type, in two's complement (6.5.3.3, 6.2.6.2 paragraph 2)
abbrev pub negated : UnOp → IntType → ℤ → Answer Value
negated Minus t x = settle t (neg_ℤ x)
negated Complement t x = settle t (neg_ℤ x -ℤ pos 1)
negated Not t x = truth (int_eq x (pos 0))

-- a unary operator on an integer: of a promoted type, and for `!` of any type
abbrev pub unary : UnOp → Value → Answer Value
unary Not x = on_number x (λ z. truth (int_eq z (pos 0)))
unary op (v.Int x) = negated op Int x
unary op (v.Uint n) = negated op Uint (pos n)
unary op _ = undefined U13
