-- Conversions and operators on bits of 32-bit words, as the tables over whole numbers say.
use Rattle.std.proofs.Common.{◌≡◌, ℕ, ◌^◌, ◌<◌, ℤ, pos, negsuc, ap, ◌∙◌, arith, FitsSigned, bit_and, w8, w32, to_z, of_z}
use Rattle.std.specs.Int.{int_wrap}
use Rattle.std.proofs.lemmas.Nat.{and_le_l}
use Rattle.c_tree.specs.declared.value.IntType.TheVariants.{Int, Uint}
use Rattle.c_tree.specs.declared.value.Value.{Value}
use Rattle.c_tree.specs.declared.value.Value.TheVariants as v
use Rattle.c_tree.specs.Operators.{gives, low_bits, on_number, on_bits}

-- a step on the number of an integer
pub on_same : (x : Value) (n : ℤ) (f : ℤ → Value) → gives n ≡ on_number x gives → gives (f n) ≡ on_number x (λ z. gives (f z))
on_same v.Indeterminate n f h = cc
on_same (v.Int z) n f h = cc
on_same (v.Uint k) n f h = cc
on_same (v.Char z) n f h = cc
on_same (v.Uchar k) n f h = cc
on_same v.Null n f h = cc
on_same (v.Func g) n f h = cc
on_same (v.At q) n f h = cc

-- the signed numbers that have these low bits
pub char_of_bits : (n : ℕ) (z : ℤ) → n ≡ low_bits 8 z → to_z w8 n ≡ int_wrap w8 z
unfolding int_wrap
char_of_bits n z h = ap (to_z w8) h

pub int_of_bits : (n : ℕ) (z : ℤ) → n ≡ low_bits 32 z → to_z w32 n ≡ int_wrap w32 z
unfolding int_wrap
int_of_bits n z h = ap (to_z w32) h

low_is : (z : ℤ) → FitsSigned w32 z → of_z w32 z ≡ low_bits 32 z
low_is (pos n) h = omega arith
low_is (negsuc n) h = omega arith

low_of : (n : ℕ) → n < 2 ^ 32 → n ≡ low_bits 32 (pos n)
low_of n h = omega arith

-- the bits of an int are a word
pub bits_fit : (z : ℤ) → FitsSigned w32 z → of_z w32 z < 2 ^ 32
bits_fit (pos n) h = omega arith
bits_fit (negsuc n) h = omega arith

pub and_fits : (a b : ℕ) → a < 2 ^ 32 → bit_and a b < 2 ^ 32
and_fits a b h = let e = and_le_l a b in omega arith

-- an operator on the bits of two ints
pub bits_of_ints : (f : ℕ → ℕ → ℕ) (x y : ℤ) → FitsSigned w32 x → FitsSigned w32 y → f (of_z w32 x) (of_z w32 y) < 2 ^ 32 → gives (v.Int (to_z w32 (f (of_z w32 x) (of_z w32 y)))) ≡ on_bits f Int x y
bits_of_ints f x y p q h =
    ap (λ n. gives (v.Int n)) (int_of_bits (f (of_z w32 x) (of_z w32 y)) (pos (f (of_z w32 x) (of_z w32 y))) (low_of (f (of_z w32 x) (of_z w32 y)) h)
    ∙ (ap (λ a. int_wrap w32 (pos (f a (of_z w32 y)))) (low_is x p) ∙ ap (λ b. int_wrap w32 (pos (f (low_bits 32 x) b))) (low_is y q)))

-- an operator on the bits of two unsigned ints
pub bits_of_words : (f : ℕ → ℕ → ℕ) (m n : ℕ) → m < 2 ^ 32 → n < 2 ^ 32 → f m n < 2 ^ 32 → gives (v.Uint (f m n)) ≡ on_bits f Uint (pos m) (pos n)
bits_of_words f m n p q h =
    ap (λ k. gives (v.Uint k)) (low_of (f m n) h
    ∙ (ap (λ a. low_bits 32 (pos (f a n))) (low_of m p) ∙ ap (λ b. low_bits 32 (pos (f (low_bits 32 (pos m)) b))) (low_of n q)))
