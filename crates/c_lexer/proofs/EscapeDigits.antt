-- The digits that stand first in a text, and which bytes are digits.
use Rattle.std.proofs.Common.{◌≡◌, ◌≢◌, ◌⊎◌, ℕ, nat_eq, nat_lt, cond, ◌<◌, ◌≤◌, List, [], ◌∷◌, ◌++◌, length, refl, subst, inl, inr, arith}
use Rattle.std.specs.Char.{digit_value}
use Rattle.std.specs.Str.Parse.{AllDigits, digits_value}
use Rattle.std.proofs.lemmas.Bool.{cases_lt}
use Rattle.std.proofs.lemmas.Bool.Decides.{nat_tests}
use Rattle.c_lexer.specs.Elements.{HasNoDigit}
use Rattle.c_lexer.specs.Literals.{IsSimple}
use Rattle.c_lexer.specs.Literals.IsSimple.{single_quote, double_quote, question, backslash, alert, backspace, form_feed, new_line, carriage_return, horizontal_tab, vertical_tab}

-- an octal digit is a byte from 0 to 7
pub octal_range : (c : ℕ) → digit_value c < 8 → (48 ≤ c) × (c ≤ 55)
octal_range c h = grind (arith, nat_tests)

pub octal_no_x : (c : ℕ) → digit_value c < 8 → c ≢ 120
octal_no_x c h e = omega (arith, octal_range c h)

-- what the text after a backslash stands for
abbrev simple_value : ℕ → ℕ
simple_value c =
    cond (nat_eq c 97) 7 (cond (nat_eq c 98) 8 (cond (nat_eq c 102) 12 (cond (nat_eq c 110) 10
    (cond (nat_eq c 114) 13 (cond (nat_eq c 116) 9 (cond (nat_eq c 118) 11 c))))))

abbrev pub escape_value : List ℕ → ℕ
escape_value [] = 0
escape_value (c ∷ rest) = cond (nat_eq c 120) (digits_value 16 rest) (cond (nat_lt (digit_value c) 8) (digits_value 8 (c ∷ rest)) (simple_value c))

-- what the byte of a simple escape is: no octal digit and no x, with one value
pub simple_facts : {c v : ℕ} → IsSimple c v → (8 ≤ digit_value c) × (c ≢ 120) × (v ≡ escape_value (c ∷ []))
simple_facts single_quote = (omega arith, omega arith, refl)
simple_facts double_quote = (omega arith, omega arith, refl)
simple_facts question = (omega arith, omega arith, refl)
simple_facts backslash = (omega arith, omega arith, refl)
simple_facts alert = (omega arith, omega arith, refl)
simple_facts backspace = (omega arith, omega arith, refl)
simple_facts form_feed = (omega arith, omega arith, refl)
simple_facts new_line = (omega arith, omega arith, refl)
simple_facts carriage_return = (omega arith, omega arith, refl)
simple_facts horizontal_tab = (omega arith, omega arith, refl)
simple_facts vertical_tab = (omega arith, omega arith, refl)

-- digits at the front of a text are no longer than those after which no digit stands
pub run_longest : (radix : ℕ) (ds es j y : List ℕ) → ds ++ j ≡ es ++ y → AllDigits radix es → HasNoDigit radix j → length es ≤ length ds
run_longest radix [] (c ∷ es) [] y e all ended = cc
run_longest radix [] (c ∷ es) (b ∷ j) y e all ended =
    let same : b ≡ c = cc in
    let low : radix ≤ digit_value c = subst (λ (x : ℕ). radix ≤ digit_value x) same ended in
    omega (arith, all.0)
run_longest radix (d ∷ ds) (c ∷ es) j y e all ended =
    let later : ds ++ j ≡ es ++ y = cc in
    omega (arith, run_longest radix ds es j y later all.1 ended)
run_longest radix ds [] j y e all ended = omega arith

-- whether a digit stands first
pub digit_first : (radix : ℕ) (j : List ℕ) → HasNoDigit radix j ⊎ ((b : ℕ) × (rest : List ℕ) × (j ≡ b ∷ rest) × (digit_value b < radix))
digit_first radix [] = inl tt
digit_first radix (b ∷ rest) =
    elim (cases_lt (digit_value b) radix) [ inl low ↦ inr (b, rest, refl, low) | inr high ↦ inl high ]
