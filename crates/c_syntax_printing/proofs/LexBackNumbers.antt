-- A printed constant spells its number.
use Rattle.std.proofs.Common.{◌≡◌, ◌<◌, ◌^◌, ℕ, Bool, true, false, cond, List, [], ◌∷◌, ◌++◌, get_or, Some, None, refl, ap, sym, subst, inl, ⊎_elim, append-nil, arith}
use Rattle.std.specs.Prelude.{decimal}
use Rattle.std.specs.Str.Parse.{IsNumeral, digits_value}
use Rattle.std.proofs.lemmas.Fmt.{decimal_is_IsNumeral, decimal_digit, first_decimal}
use Rattle.std.proofs.lemmas.Str.Parse.{digit_from_value}
use Rattle.std.proofs.lemmas.Bool.{cases_lt, lt-ltb}
use Rattle.c_lexer.specs.declared.token.TokenKind.TheVariants.{Int}
use Rattle.c_lexer.specs.Literals.{IsDecimal, HasNumber}
use Rattle.c_lexer.specs.Kinds.{Spells, IsKind}
use Rattle.c_syntax.specs.Text.{constant_text}
use Rattle.c_syntax_printing.proofs.LexBackWords.{Bare, digit_bare}

from_numeral : (w : List ℕ) (n : ℕ) → IsNumeral 10 w → n ≡ digits_value 10 w → 48 < get_or w 0 0 → IsDecimal w n
from_numeral [] n numeral is first = absurd (omega (arith, numeral.0))
from_numeral (d ∷ w) n numeral is first = (λ e. omega arith, numeral.1, is)

-- a number above 0 is a decimal constant, and 0 is an octal one
some_number : (n : ℕ) → 0 < n → n < 2 ^ 32 → HasNumber (decimal n) n true
some_number n some small =
    let below : n < 2 ^ 64 = omega arith in
    let numeral = decimal_is_IsNumeral n below in
    from_numeral (decimal n) n numeral.0 (sym numeral.1) (first_decimal n some below)

zero_number : HasNumber (decimal 0) 0 false
zero_number = inl ([], decimal_digit 0 (omega arith), tt, refl)

unsigned_constant : (n : ℕ) (base : Bool) → HasNumber (decimal n) n base → n < 2 ^ 32 → Spells (Int n true) (decimal n ++ 117 ∷ [])
unsigned_constant n base number small = (
  base,
  true,
  record { digits = decimal n; suffix = 117 ∷ []; is = refl; number = number; ended = inl refl },
  ap (λ (t : Bool). cond t (Some true) None) (lt-ltb n (2 ^ 32) small),
)

signed_constant : (n : ℕ) (base : Bool) → HasNumber (decimal n) n base → n < 2 ^ 31 → Spells (Int n false) (decimal n)
signed_constant n base number small = (
  base,
  false,
  record { digits = decimal n; suffix = []; is = sym (append-nil (decimal n)); number = number; ended = refl },
  rw (lt-ltb n (2 ^ 31) small) refl,
)

-- whether the constant is decimal
constant_base : (n : ℕ) → n < 2 ^ 32 → (base : Bool) × HasNumber (decimal n) n base
constant_base n small =
    ⊎_elim (λ none.
    let is : 0 ≡ n = omega arith in
    subst (λ (m : ℕ). (base : Bool) × HasNumber (decimal m) m base) is (false, zero_number))
    (λ some. (true, some_number n (omega arith) small))
    (cases_lt n 1)

pub constant_spelled : (n : ℕ) (unsigned : Bool) → IsKind (Int n unsigned) → Spells (Int n unsigned) (constant_text n unsigned)
constant_spelled n true small = let b = constant_base n small in unsigned_constant n b.0 b.1 small
constant_spelled n false small = let b = constant_base n (omega arith) in signed_constant n b.0 b.1 small

numeral_bare : (w v : List ℕ) → IsNumeral 10 w → Bare (w ++ v)
numeral_bare [] v numeral = absurd (omega (arith, numeral.0))
numeral_bare (d ∷ w) v numeral = digit_bare d (w ++ v) (digit_from_value d numeral.1.0)

-- it begins with a digit
pub constant_bare : (n : ℕ) (unsigned : Bool) → IsKind (Int n unsigned) → Bare (constant_text n unsigned)
constant_bare n true small = numeral_bare (decimal n) (117 ∷ []) (decimal_is_IsNumeral n (omega arith)).0
constant_bare n false small = subst Bare (append-nil (decimal n)) (numeral_bare (decimal n) [] (decimal_is_IsNumeral n (omega arith)).0)
