-- The first byte of a text.
use Rattle.std.proofs.Common.{◌≢◌, ℕ, List, [], ◌∷◌, get_or, refl, arith, inr}
use Rattle.std.specs.Char.{IsNotAsciiAlphabetic, IsNotAsciiDigit}
use Rattle.dm_base.specs.Name.{IsLetter, IsDigit}
use Rattle.c_lexer.specs.Parts.{BeginsWith, IsOther}

-- neither letter, digit nor quote
pub other_first : (i : List ℕ) → i ≢ [] → (IsLetter (get_or i 0 0) → ⊥) → (IsDigit (get_or i 0 0) → ⊥) → get_or i 0 0 ≢ 39 → get_or i 0 0 ≢ 34 → BeginsWith IsOther i
other_first [] some letter digit single double = absurd (some refl)
other_first (b ∷ rest) some letter digit single double = (b, rest, refl, record { no_letter = letter; no_digit = digit; no_single = single; no_double = double })

pub no_letter : (b : ℕ) → IsNotAsciiAlphabetic b → b ≢ 95 → IsLetter b → ⊥
no_letter b other low (inr (inr is)) = low is
no_letter b other low a = omega arith

pub no_digit : (b : ℕ) → IsNotAsciiDigit b → IsDigit b → ⊥
no_digit b other digit = omega arith
