-- Integers whose decimals begin with given bytes.
use Rattle.std.proofs.Common.{◌≡◌, ℕ, zero, suc, ◌<◌, ◌≤◌, ◌^◌, ℤ, pos, negsuc, ◌≤ℤ◌, Bool, IsTrue, List, [], ◌∷◌, ◌++◌, get_or, decimal, refl, sym, ap, inl, inr, arith}
use Rattle.std.specs.Prelude.{◌↔◌, FitsSigned}
use Rattle.std.specs.Int.{w64}
use Rattle.std.specs.Fmt.{signed_decimal}
use Rattle.std.proofs.lemmas.Int.{ints}
use Rattle.std.proofs.lemmas.Fmt.{digits_decimal, decimal_nonempty, signed_decimal_injective}
use Rattle.std.proofs.lemmas.Str.Parse.{not_in_digits}
use Rattle.line_text.specs.Reading.{Agree, StandsFirst}
use Rattle.line_text.specs.Spelling.{BeginsOne}
use Rattle.line_text.specs.Words.{IsEnd, IsPlain, ended_word, integer_word}
use Rattle.dm_base.proofs.Decimals.{own}
use Rattle.line_text.proofs.NumberLemmas.{decimal-IsPlain}
use Rattle.line_text.proofs.WordLemmas.{value_stands, no_value_stands}

-- an integer between two of 64 bits is one
pub fits_between : (least most z : ℤ) → FitsSigned w64 least → FitsSigned w64 most → least ≤ℤ z → z ≤ℤ most → FitsSigned w64 z
fits_between least most z fits_least fits_most low high = omega (arith, ints)

pub decimal-no_minus : (n : ℕ) (digits : List ℕ) → n < 2 ^ 64 → decimal n ≡ 45 ∷ digits → ⊥
decimal-no_minus n digits small is =
    let first : get_or (decimal n) 0 0 ≡ 45 = ap (λ w. get_or w 0 0) is in
    not_in_digits own (decimal n) 45 (digits_decimal own n small) (λ within. omega arith) 0 (decimal_nonempty n small) first

pub signed-IsPlain : (z : ℤ) → FitsSigned w64 z → IsPlain (signed_decimal z)
signed-IsPlain (pos n) fits = decimal-IsPlain n (omega (arith, fits.sfits))
signed-IsPlain (negsuc n) fits = (minus_no_end, decimal-IsPlain (suc n) (omega (arith, fits.sfits))) where
  minus_no_end : IsEnd 45 → ⊥
  minus_no_end (inl is) = omega arith
  minus_no_end (inr is) = omega arith

pub signed_injective : (y z : ℤ) → FitsSigned w64 y → FitsSigned w64 z → signed_decimal y ≡ signed_decimal z → y ≡ z
signed_injective y z fits_y fits_z is = signed_decimal_injective y z (omega (arith, fits_y.sfits)) (omega (arith, fits_z.sfits)) is

-- the digits after a minus
pub minus_digits : (z : ℤ) (digits : List ℕ) → FitsSigned w64 z → 45 ∷ digits ≡ signed_decimal z → (n : ℕ) × (1 ≤ n) × (n ≤ 2 ^ 63) × (digits ≡ decimal n)
minus_digits (pos n) digits fits is = absurd (decimal-no_minus n digits (omega (arith, fits.sfits)) (sym is))
minus_digits (negsuc n) digits fits is = (suc n, omega arith, omega (arith, fits.sfits), cc)

-- what a text begins

pub begins_all : (least most : ℤ) → least ≤ℤ most → BeginsOne (λ z. (least ≤ℤ z) × (z ≤ℤ most)) signed_decimal []
begins_all least most range = (least, signed_decimal least, (omega (arith, ints), range), refl)

pub begins_after_minus : (b : Bool) (least most : ℤ) (digits : List ℕ) → FitsSigned w64 least → FitsSigned w64 most → (IsTrue b ↔ ((n : ℕ) × (rest : List ℕ) × (least ≤ℤ negsuc n) × (negsuc n ≤ℤ most) × (decimal (suc n) ≡ digits ++ rest))) → IsTrue b ↔ BeginsOne (λ z. (least ≤ℤ z) × (z ≤ℤ most)) signed_decimal (45 ∷ digits)
begins_after_minus b least most digits fits_least fits_most tells = (
  λ holds. (let found = tells.0 holds in (negsuc found.0, found.1, (found.2, found.3), ap (λ w. 45 ∷ w) found.4)),
  λ (z, rest, within, is). tells.1 (negative_of z rest within.0 within.1 is),
) where
  negative_of : (z : ℤ) (rest : List ℕ) → least ≤ℤ z → z ≤ℤ most → signed_decimal z ≡ 45 ∷ (digits ++ rest) → (n : ℕ) × (rest : List ℕ) × (least ≤ℤ negsuc n) × (negsuc n ≤ℤ most) × (decimal (suc n) ≡ digits ++ rest)
  negative_of (pos n) rest low high is =
      let fits = fits_between least most (pos n) fits_least fits_most low high in
      absurd (decimal-no_minus n (digits ++ rest) (omega (arith, fits.sfits)) is)
  negative_of (negsuc n) rest low high is = (n, rest, low, high, cc)

-- the readers of integers

pub integer_stands : (least most : ℤ) (end : ℕ) (old new word : List ℕ) (z : ℤ) → FitsSigned w64 least → FitsSigned w64 most → StandsFirst IsPlain (ended_word end) old new word → (least ≤ℤ z) × (z ≤ℤ most) × (word ≡ signed_decimal z) → StandsFirst (λ y. (least ≤ℤ y) × (y ≤ℤ most)) (integer_word end) old new z
integer_stands least most end old new word z fits_least fits_most first (low, high, is) =
    value_stands (λ (y : ℤ). (least ≤ℤ y) × (y ≤ℤ most)) signed_decimal end old new word z
    (λ y within. signed-IsPlain y (fits_between least most y fits_least fits_most within.0 within.1)) first (low, high) is
    (λ y within same. signed_injective y z (fits_between least most y fits_least fits_most within.0 within.1) (fits_between least most z fits_least fits_most low high) same)

pub no_integer_stands : (least most : ℤ) (end : ℕ) (old new word : List ℕ) → FitsSigned w64 least → FitsSigned w64 most → StandsFirst IsPlain (ended_word end) old new word → ((z : ℤ) → least ≤ℤ z → z ≤ℤ most → word ≡ signed_decimal z → ⊥) → (z : ℤ) → (least ≤ℤ z) × (z ≤ℤ most) → Agree (integer_word end z) old → ⊥
no_integer_stands least most end old new word fits_least fits_most first none =
    no_value_stands (λ (y : ℤ). (least ≤ℤ y) × (y ≤ℤ most)) signed_decimal end old new word
    (λ y within. signed-IsPlain y (fits_between least most y fits_least fits_most within.0 within.1)) first (λ y within is. none y within.0 within.1 is)

pub begins_below : (b : Bool) (least most : ℤ) (near far : ℕ) (digits : List ℕ) → 1 ≤ near → ((n : ℕ) → near ≤ suc n → negsuc n ≤ℤ most) → ((n : ℕ) → negsuc n ≤ℤ most → near ≤ suc n) → ((n : ℕ) → suc n ≤ far → least ≤ℤ negsuc n) → ((n : ℕ) → least ≤ℤ negsuc n → suc n ≤ far) → (IsTrue b ↔ BeginsOne (λ n. (near ≤ n) × (n ≤ far)) decimal digits) → IsTrue b ↔ ((n : ℕ) × (rest : List ℕ) × (least ≤ℤ negsuc n) × (negsuc n ≤ℤ most) × (decimal (suc n) ≡ digits ++ rest))
begins_below b least most near far digits some to_most from_most to_least from_least tells = (
  λ holds. (let found = tells.0 holds in below_of found.0 found.1 found.2.0 found.2.1 found.3),
  λ (n, rest, low, high, is). tells.1 (suc n, rest, (from_most n high, from_least n low), is),
) where
  below_of : (n : ℕ) (rest : List ℕ) → near ≤ n → n ≤ far → decimal n ≡ digits ++ rest → (n : ℕ) × (rest : List ℕ) × (least ≤ℤ negsuc n) × (negsuc n ≤ℤ most) × (decimal (suc n) ≡ digits ++ rest)
  below_of zero rest low high is = absurd (omega arith)
  below_of (suc n) rest low high is = (n, rest, to_least n high, to_most n low, is)
