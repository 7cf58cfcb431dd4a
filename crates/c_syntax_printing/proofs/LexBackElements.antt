-- The printed text of an element is the element, and the longest there.
use Rattle.std.proofs.Common.{◌≡◌, ◌≢◌, ◌≤◌, ◌<◌, ◌+◌, ◌-◌, ◌/◌, ◌%◌, ℕ, ℤ, pos, negsuc, Bool, true, false, ◌&&◌, ◌||◌, nat_eq, nat_le, List, [], ◌∷◌, ◌++◌, length, All, refl, sym, ap, ◌∙◌, subst, inl, inr, ⊎_elim, append_assoc, arith}
use Rattle.std.specs.Prelude.{◌≤ℤ◌, ◌-ℤ◌, if◌then◌else◌}
use Rattle.std.specs.Char.{digit_value}
use Rattle.std.specs.Str.Parse.{AllDigits, digits_value}
use Rattle.std.proofs.lemmas.Bool.{lt-ltb, le-ltb, and_parts, or_cases, or_parts, eqb-true, eqb-false, leb-true}
use Rattle.std.proofs.lemmas.Bool.Decides.{nat_tests}
use Rattle.std.proofs.lemmas.Int.{ints}
use Rattle.std.proofs.lemmas.List.Elements.{All-head, All-tail}
use Rattle.c_lexer.specs.declared.token.TokenKind.TheVariants.{Char, Str}
use Rattle.c_lexer.specs.Literals.{IsPlain, IsSimple, IsElement, HasElement, HasElements, char_value}
use Rattle.c_lexer.specs.Literals.IsSimple.{single_quote, double_quote, backslash}
use Rattle.c_lexer.specs.Literals.IsElement.{plain, simple, octal, hexadecimal}
use Rattle.c_lexer.specs.Literals.HasElements.{none, more}
use Rattle.c_lexer.specs.Kinds.{IsByte, Spells, IsKind}
use Rattle.c_syntax.specs.Text.{byte_of, element_text, elements_text, kind_text}
use Rattle.c_syntax_printing.proofs.LexBackQuoted.{IsMark}

-- a byte that stands for itself can't go on
plain_short : {q b u : ℕ} {x : List ℕ} (j y : List ℕ) → b ≢ 92 → b ∷ j ≡ x ++ y → IsElement q x u → length x ≤ 1
plain_short j y other e (plain _) = omega arith
plain_short j y other e a = absurd (other cc)

-- nor can a backslash with a byte that is no octal digit and no x
simple_short : {q c u : ℕ} {x : List ℕ} (j y : List ℕ) → 8 ≤ digit_value c → c ≢ 120 → 92 ∷ c ∷ j ≡ x ++ y → IsElement q x u → length x ≤ 2
simple_short {c = c} j y high other e (octal {digits = d ∷ digits} _ _ all _) =
    let same : d ≡ c = cc in
    let low : digit_value c < 8 = subst (λ (n : ℕ). digit_value n < 8) same all.0 in
    omega arith
simple_short {c = c} j y high other e (hexadecimal _ _ _) =
    let same : c ≡ 120 = cc in
    absurd (other same)
simple_short j y high other e x = omega arith

-- nor can three octal digits
octal_short : {q c u : ℕ} {x : List ℕ} (j y : List ℕ) → digit_value c < 8 → 92 ∷ c ∷ j ≡ x ++ y → IsElement q x u → length x ≤ 4
octal_short {c = c} j y low e (hexadecimal _ _ _) =
    let same : c ≡ 120 = cc in
    let bad : digit_value 120 < 8 = subst (λ (n : ℕ). digit_value n < 8) same low in
    absurd (omega arith)
octal_short j y low e (octal _ few _ _) = omega arith
octal_short j y low e x = omega arith

plain_element : (q b : ℕ) (j : List ℕ) → IsPlain q b → HasElement q (b ∷ j) j b
plain_element q b j p = record {
  text = b ∷ [];
  element = plain p;
  longest = record { is = (b, plain p); stands = refl; longest = λ x y e some. plain_short j y p.no_backslash e some.1 };
}

simple_element : (q b : ℕ) (j : List ℕ) → IsSimple b b → 8 ≤ digit_value b → b ≢ 120 → HasElement q (92 ∷ b ∷ j) j b
simple_element q b j s high other = record {
  text = 92 ∷ b ∷ [];
  element = simple s;
  longest = record { is = (b, simple s); stands = refl; longest = λ x y e some. simple_short j y high other e some.1 };
}

octal_char : (d : ℕ) → d < 8 → digit_value (d + 48) ≡ d
octal_char d low = grind (arith, nat_tests)

abbrev byte_digits : ℕ → List ℕ
byte_digits b = (b / 64 + 48) ∷ (b / 8 % 8 + 48) ∷ (b % 8 + 48) ∷ []

digits_are : (b : ℕ) → b ≤ 255 → AllDigits 8 (byte_digits b)
digits_are b byte =
    let one = octal_char (b / 64) (omega arith) in
    let two = octal_char (b / 8 % 8) (omega arith) in
    let three = octal_char (b % 8) (omega arith) in
    (omega arith, (omega arith, (omega arith, tt)))

digits_have : (b : ℕ) → b ≤ 255 → b ≡ digits_value 8 (byte_digits b)
digits_have b byte =
    let one = octal_char (b / 64) (omega arith) in
    let two = octal_char (b / 8 % 8) (omega arith) in
    let three = octal_char (b % 8) (omega arith) in
    rw (one, two, three) (omega arith)

octal_element : (q b : ℕ) (j : List ℕ) → b ≤ 255 → HasElement q (92 ∷ (b / 64 + 48) ∷ (b / 8 % 8 + 48) ∷ (b % 8 + 48) ∷ j) j b
octal_element q b j byte =
    let element : IsElement q (92 ∷ byte_digits b) b = octal (omega arith) (omega arith) (digits_are b byte) (digits_have b byte) in
    record {
      text = 92 ∷ byte_digits b;
      element = element;
      longest = record { is = (b, element); stands = refl; longest = λ x y e some. octal_short ((b / 8 % 8 + 48) ∷ (b % 8 + 48) ∷ j) y (digits_are b byte).0 e some.1 };
    }

-- a text for a byte by the two tests on it
abbrev chosen : Bool → Bool → ℕ → List ℕ
chosen escaped printed b =
    if escaped then (92 ∷ b ∷ []) else (if printed then (b ∷ []) else (92 ∷ (b / 64 + 48) ∷ (b / 8 % 8 + 48) ∷ (b % 8 + 48) ∷ []))

-- what stands for itself only after a backslash
pub record IsEscaped (b : ℕ) : Type 0 where
  pub simple : IsSimple b b
  pub high : 8 ≤ digit_value b
  pub other : b ≢ 120

chosen_element : (q b : ℕ) (j : List ℕ) (escaped printed : Bool) → b ≤ 255 → (escaped ≡ true → IsEscaped b) → (escaped ≡ false → printed ≡ true → IsPlain q b) → HasElement q (chosen escaped printed b ++ j) j b
chosen_element q b j true printed byte one two = let e = one refl in simple_element q b j e.simple e.high e.other
chosen_element q b j false true byte one two = plain_element q b j (two refl refl)
chosen_element q b j false false byte one two = octal_element q b j byte

escaped_at : (b n : ℕ) → b ≡ n → IsEscaped n → IsEscaped b
escaped_at b n e h = subst IsEscaped (sym e) h

quote_escaped : (q : ℕ) → IsMark q → IsEscaped q
quote_escaped q (inl e) = escaped_at q 39 e (record { simple = single_quote; high = omega arith; other = λ f. omega arith })
quote_escaped q (inr e) = escaped_at q 34 e (record { simple = double_quote; high = omega arith; other = λ f. omega arith })

is_escaped : (q b : ℕ) → IsMark q → (nat_eq b q || nat_eq b 92) ≡ true → IsEscaped b
is_escaped q b mark h =
    ⊎_elim (λ one. escaped_at b q (eqb-true b q one) (quote_escaped q mark))
    (λ other. escaped_at b 92 (eqb-true b 92 other) (record { simple = backslash; high = omega arith; other = λ f. omega arith }))
    (or_cases (nat_eq b q) (nat_eq b 92) h)

is_plain : (q b : ℕ) → (nat_eq b q || nat_eq b 92) ≡ false → (nat_le 32 b && nat_le b 126) ≡ true → IsPlain q b
is_plain q b unlike printed =
    let apart = or_parts (nat_eq b q) (nat_eq b 92) unlike in
    let range = and_parts (nat_le 32 b) (nat_le b 126) printed in
    let low : 32 ≤ b = leb-true 32 b range.0 in
    let high : b ≤ 126 = leb-true b 126 range.1 in
    record {
      from = low;
      below = omega arith;
      no_control = λ e. omega arith;
      no_quote = eqb-false b q apart.0;
      no_backslash = eqb-false b 92 apart.1;
    }

printed_element : (q b : ℕ) (j : List ℕ) → IsMark q → b ≤ 255 → HasElement q (element_text q b ++ j) j b
printed_element q b j mark byte =
    chosen_element q b j (nat_eq b q || nat_eq b 92) (nat_le 32 b && nat_le b 126) byte (is_escaped q b mark) (is_plain q b)

-- elements one after the other
printed_elements : (q : ℕ) (bytes j : List ℕ) → IsMark q → All IsByte bytes → HasElements q (elements_text q bytes ++ j) j bytes
printed_elements q [] j mark all = none
printed_elements q (b ∷ bytes) j mark all =
    let here : HasElement q (element_text q b ++ (elements_text q bytes ++ j)) (elements_text q bytes ++ j) b =
    printed_element q b (elements_text q bytes ++ j) mark (All-head IsByte b bytes all) in
    let later : HasElements q (elements_text q bytes ++ j) j bytes = printed_elements q bytes j mark (All-tail IsByte b bytes all) in
    subst (λ (i : List ℕ). HasElements q i j (b ∷ bytes)) (sym (append_assoc (element_text q b) (elements_text q bytes) j)) (more here later)

-- each value of a signed char is that of a byte
pub record IsByteOf (c : ℤ) : Type 0 where
  pub byte : byte_of c ≤ 255
  pub value : c ≡ char_value (byte_of c)

char_byte : (c : ℤ) → (negsuc 127 ≤ℤ c) × (c ≤ℤ pos 127) → IsByteOf c
char_byte (pos n) fits =
    let low : n < 128 = omega (arith, ints) in
    let whole : n % 256 ≡ n = omega arith in
    let is : char_value n ≡ pos n = rw (lt-ltb n 128 low) refl in
    record { byte = omega (arith, whole); value = sym (ap char_value whole ∙ is) }
char_byte (negsuc n) fits =
    let low : n ≤ 127 = omega (arith, ints) in
    let whole : 255 - n % 256 ≡ 255 - n = omega arith in
    let high : 128 ≤ 255 - n = omega arith in
    let is : char_value (255 - n) ≡ pos (255 - n) -ℤ pos 256 = rw (le-ltb (255 - n) 128 high) refl in
    let same : negsuc n ≡ pos (255 - n) -ℤ pos 256 = omega (arith, ints) in
    record { byte = omega (arith, whole); value = same ∙ sym (ap char_value whole ∙ is) }

-- a printed character or string spells its kind
pub char_spelled : (c : ℤ) → IsKind (Char c) → Spells (Char c) (kind_text (Char c))
char_spelled c fits =
    let b = char_byte c fits in
    (byte_of c, (element_text 39 (byte_of c) ++ 39 ∷ [], refl, printed_element 39 (byte_of c) (39 ∷ []) (inl refl) b.byte), b.byte, b.value)

pub string_spelled : (bytes : List ℕ) → IsKind (Str bytes) → Spells (Str bytes) (kind_text (Str bytes))
string_spelled bytes all = ((elements_text 34 bytes ++ 34 ∷ [], refl, printed_elements 34 bytes (34 ∷ []) (inr refl) all), all)
