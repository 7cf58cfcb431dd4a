-- The kinds that literals spell: a value is written as an escape with three octal digits.
use Rattle.std.proofs.Common.{◌≡◌, ℕ, ℤ, pos, negsuc, ◌+◌, ◌/◌, ◌%◌, ◌-◌, ◌<◌, ◌≤◌, List, [], ◌∷◌, refl, sym, ◌∙◌, subst, inl, inr, arith}
use Rattle.std.specs.Prelude.{All, ◌≤ℤ◌, ◌-ℤ◌}
use Rattle.std.specs.Char.{digit_value}
use Rattle.std.specs.Str.Parse.{AllDigits, digits_value}
use Rattle.std.proofs.lemmas.Bool.{cases_lt, lt-ltb, le-ltb}
use Rattle.std.proofs.lemmas.Bool.Decides.{nat_tests}
use Rattle.std.proofs.lemmas.Int.{ints}
use Rattle.std.proofs.lemmas.List.Elements.{All-head, All-tail}
use Rattle.c_lexer.specs.declared.token.TokenKind.TheVariants.{Char, Str}
use Rattle.c_lexer.specs.Literals.{HasElement, HasElements, char_value}
use Rattle.c_lexer.specs.Literals.HasElements.{none, more}
use Rattle.c_lexer.specs.Kinds.{IsByte, Spells, SpellsSome, IsKind}
use Rattle.c_lexer.proofs.EscapeFronts.{has_element}
use Rattle.c_lexer.proofs.EscapeFronts.Front.{an_octal}

low_value : (v : ℕ) → v < 128 → char_value v ≡ pos v
low_value v low = rw (lt-ltb v 128 low)

high_value : (v : ℕ) → 128 ≤ v → char_value v ≡ pos v -ℤ pos 256
high_value v high = rw (le-ltb v 128 high)

-- a character constant's value is one of a signed char
value_range : (v : ℕ) → v ≤ 255 → (negsuc 127 ≤ℤ char_value v) × (char_value v ≤ℤ pos 127)
value_range v byte =
    elim (cases_lt v 128) [
      | inl low ↦ rw (low_value v low) (omega (arith, ints))
      | inr high ↦ rw (high_value v high) (omega (arith, ints))
    ]

pub char_kind : (c : ℤ) (w : List ℕ) → Spells (Char c) w → IsKind (Char c)
char_kind c w (v, is, byte, value) = subst (λ (x : ℤ). (negsuc 127 ≤ℤ x) × (x ≤ℤ pos 127)) (sym value) (value_range v byte)

pub str_kind : (bytes : List ℕ) (w : List ℕ) → Spells (Str bytes) w → IsKind (Str bytes)
str_kind bytes w h = h.1

octal_char : (d : ℕ) → d < 8 → digit_value (48 + d) ≡ d
octal_char d low = grind (arith, nat_tests)

-- a byte as an escape
abbrev digits_of_byte : ℕ → List ℕ
digits_of_byte v = (48 + v / 8 / 8) ∷ (48 + v / 8 % 8) ∷ (48 + v % 8) ∷ []

digits_write : (v : ℕ) → v ≤ 255 → AllDigits 8 (digits_of_byte v) × (v ≡ digits_value 8 (digits_of_byte v))
digits_write v byte =
    let one = octal_char (v / 8 / 8) (omega arith) in
    let two = octal_char (v / 8 % 8) (omega arith) in
    let three = octal_char (v % 8) (omega arith) in
    ((omega arith, (omega arith, (omega arith, tt))), rw (one, two, three) (omega arith))

byte_element : (q v : ℕ) (j : List ℕ) → v ≤ 255 → HasElement q (92 ∷ (48 + v / 8 / 8) ∷ (48 + v / 8 % 8) ∷ (48 + v % 8) ∷ j) j v
byte_element q v j byte = has_element (an_octal (digits_of_byte v) refl (omega arith) (omega arith) (digits_write v byte).0 (inl refl) (digits_write v byte).1)

-- each value of a signed char is that of a byte
byte_of_char : (c : ℤ) → (negsuc 127 ≤ℤ c) × (c ≤ℤ pos 127) → (v : ℕ) × (v ≤ 255) × (c ≡ char_value v)
byte_of_char (pos n) fits =
    let low : n < 128 = omega (arith, ints) in
    (n, omega arith, sym (low_value n low))
byte_of_char (negsuc n) fits =
    let low : n ≤ 127 = omega (arith, ints) in
    let high : 128 ≤ 255 - n = omega arith in
    let same : negsuc n ≡ pos (255 - n) -ℤ pos 256 = omega (arith, ints) in
    (255 - n, omega arith, same ∙ sym (high_value (255 - n) high))

pub char_spelled : (c : ℤ) → IsKind (Char c) → SpellsSome (Char c)
char_spelled c fits =
    let (v, byte, is) = byte_of_char c fits in
    let inner : List ℕ = 92 ∷ (48 + v / 8 / 8) ∷ (48 + v / 8 % 8) ∷ (48 + v % 8) ∷ 39 ∷ [] in
    (39 ∷ inner, (v, (inner, refl, byte_element 39 v (39 ∷ []) byte), byte, is))

abbrev escaped : List ℕ → List ℕ
escaped [] = 34 ∷ []
escaped (v ∷ vs) = 92 ∷ (48 + v / 8 / 8) ∷ (48 + v / 8 % 8) ∷ (48 + v % 8) ∷ escaped vs

escaped_elements : (vs : List ℕ) → All IsByte vs → HasElements 34 (escaped vs) (34 ∷ []) vs
escaped_elements [] all = none
escaped_elements (v ∷ vs) all = more (byte_element 34 v (escaped vs) (All-head IsByte v vs all)) (escaped_elements vs (All-tail IsByte v vs all))

pub str_spelled : (bytes : List ℕ) → IsKind (Str bytes) → SpellsSome (Str bytes)
str_spelled bytes all = (34 ∷ escaped bytes, ((escaped bytes, refl, escaped_elements bytes all), all))
