-- The elements that stand first in a text: an element is the longest where it can't go on.
use Rattle.std.proofs.Common.{◌≡◌, ◌⊎◌, ℕ, suc, ◌<◌, ◌≤◌, List, [], ◌∷◌, ◌++◌, length, refl, sym, ◌∙◌, ap, subst, inl, inr, append_assoc, arith}
use Rattle.std.specs.Char.{digit_value}
use Rattle.std.specs.Str.Parse.{AllDigits, digits_value}
use Rattle.std.proofs.lemmas.Bool.{cases_lt}
use Rattle.std.proofs.lemmas.List.{length-append}
use Rattle.std.proofs.lemmas.Int.Digits.{digits_push}
use Rattle.c_lexer.specs.Elements.{HasNoDigit}
use Rattle.c_lexer.specs.Literals.{IsPlain, IsSimple, IsElement, IsLongest, IsSomeElement, HasElement}
use Rattle.c_lexer.specs.Literals.IsElement.{plain, simple, octal, hexadecimal}
use Rattle.c_lexer.proofs.EscapeDigits.{simple_facts, run_longest, digit_first}

-- from i to j stands an element that can't go on
pub data Front (quote : ℕ) : List ℕ → List ℕ → ℕ → Type 0 where
  a_plain : {b : ℕ} {j : List ℕ} → IsPlain quote b → Front quote (b ∷ j) j b
  a_simple : {c v : ℕ} {j : List ℕ} → IsSimple c v → Front quote (92 ∷ c ∷ j) j v
  an_octal : (digits : List ℕ) {i j : List ℕ} {v : ℕ} → i ≡ digits ++ j → 1 ≤ length digits → length digits ≤ 3 → AllDigits 8 digits → (length digits ≡ 3) ⊎ HasNoDigit 8 j → v ≡ digits_value 8 digits → Front quote (92 ∷ i) j v
  a_hexadecimal : (digits : List ℕ) {i j : List ℕ} {v : ℕ} → i ≡ digits ++ j → 1 ≤ length digits → AllDigits 16 digits → HasNoDigit 16 j → v ≡ digits_value 16 digits → Front quote (92 ∷ 120 ∷ i) j v

-- no longer element stands where one can't go on
at_plain : {q b u : ℕ} {x : List ℕ} (j y : List ℕ) → IsPlain q b → b ∷ j ≡ x ++ y → IsElement q x u → length x ≤ 1
at_plain j y p e (plain _) = omega arith
at_plain j y p e a = absurd (p.no_backslash cc)

at_simple : {q c v u : ℕ} {x : List ℕ} (j y : List ℕ) → IsSimple c v → 92 ∷ c ∷ j ≡ x ++ y → IsElement q x u → length x ≤ 2
at_simple j y s e (plain _) = omega arith
at_simple j y s e (simple _) = omega arith
at_simple j y s e (octal {digits = []} some _ _ _) = omega arith
at_simple {c = c} j y s e (octal {digits = d ∷ digits} _ _ all _) =
    let same : d ≡ c = cc in
    let low : digit_value c < 8 = subst (λ (x : ℕ). digit_value x < 8) same all.0 in
    let high = (simple_facts s).0 in
    omega arith
at_simple {c = c} j y s e (hexadecimal _ _ _) =
    let same : c ≡ 120 = cc in
    absurd ((simple_facts s).1 same)

at_octal : {q u : ℕ} {x : List ℕ} (ds i j y : List ℕ) → i ≡ ds ++ j → 1 ≤ length ds → AllDigits 8 ds → (length ds ≡ 3) ⊎ HasNoDigit 8 j → 92 ∷ i ≡ x ++ y → IsElement q x u → length x ≤ suc (length ds)
at_octal ds i j y is some low (inl full) e (octal {digits = es} _ few all _) = omega arith
at_octal ds i j y is some low (inr ended) e (octal {digits = es} _ few all _) =
    let same : ds ++ j ≡ es ++ y = cc in
    let shorter = run_longest 8 ds es j y same all ended in
    omega arith
at_octal (d ∷ ds) i j y is some low ended e (hexadecimal _ _ _) =
    let same : d ≡ 120 = cc in
    let low : digit_value 120 < 8 = subst (λ (x : ℕ). digit_value x < 8) same low.0 in
    omega arith
at_octal ds i j y is some low ended e a = omega arith

at_hexadecimal : {q u : ℕ} {x : List ℕ} (ds i j y : List ℕ) → i ≡ ds ++ j → 1 ≤ length ds → HasNoDigit 16 j → 92 ∷ 120 ∷ i ≡ x ++ y → IsElement q x u → length x ≤ suc (suc (length ds))
at_hexadecimal ds i j y is some ended e (octal {digits = []} one _ _ _) = omega arith
at_hexadecimal ds i j y is some ended e (octal {digits = d ∷ digits} _ _ all _) =
    let same : d ≡ 120 = cc in
    let low : digit_value 120 < 8 = subst (λ (x : ℕ). digit_value x < 8) same all.0 in
    omega arith
at_hexadecimal ds i j y is some ended e (hexadecimal {digits = es} _ all _) =
    let same : ds ++ j ≡ es ++ y = cc in
    let shorter = run_longest 16 ds es j y same all ended in
    omega arith
at_hexadecimal ds i j y is some ended e a = omega arith

-- what can't go on is the longest
longest_element : {q v : ℕ} (w : List ℕ) {i j : List ℕ} → IsElement q w v → i ≡ w ++ j → ((x y : List ℕ) (u : ℕ) → i ≡ x ++ y → IsElement q x u → length x ≤ length w) → HasElement q i j v
longest_element {v = v} w element stands longest = record {
  text = w;
  element = element;
  longest = record { is = (v, element); stands = stands; longest = λ x y e some. longest x y some.0 e some.1 };
}

pub has_element : {q v : ℕ} {i j : List ℕ} → Front q i j v → HasElement q i j v
has_element (a_plain {b} {j} p) = longest_element (b ∷ []) (plain p) refl (λ x y u e some. at_plain j y p e some)
has_element (a_simple {c} {j = j} s) = longest_element (92 ∷ c ∷ []) (simple s) refl (λ x y u e some. at_simple j y s e some)
has_element (an_octal digits {i} {j} is some few low ended value) =
    longest_element (92 ∷ digits) (octal some few low value) (ap (λ (w : List ℕ). 92 ∷ w) is) (λ x y u e found. at_octal digits i j y is some low ended e found)
has_element (a_hexadecimal digits {i} {j} is some low ended value) =
    longest_element (92 ∷ 120 ∷ digits) (hexadecimal some low value) (ap (λ (w : List ℕ). 92 ∷ 120 ∷ w) is) (λ x y u e found. at_hexadecimal digits i j y is some ended e found)

-- no digit follows the longest, where it is an element with one more
no_digit_after : (q radix : ℕ) (w i j : List ℕ) → IsLongest (IsSomeElement q) w i j → ((b : ℕ) → digit_value b < radix → IsSomeElement q (w ++ b ∷ [])) → HasNoDigit radix j
no_digit_after q radix w i j whole more =
    elim (digit_first radix j) [
      | inl ended ↦ ended
      | inr (b, rest, is, low) ↦
          let stands : i ≡ (w ++ b ∷ []) ++ rest = whole.stands ∙ ap (λ (x : List ℕ). w ++ x) is ∙ sym (append_assoc w (b ∷ []) rest) in
          let bound = whole.longest (w ++ b ∷ []) rest stands (more b low) in
          absurd (omega (arith, bound, length-append w (b ∷ [])))
    ]

octal_ended : (q : ℕ) (ds i j : List ℕ) → 1 ≤ length ds → length ds ≤ 3 → AllDigits 8 ds → IsLongest (IsSomeElement q) (92 ∷ ds) i j → (length ds ≡ 3) ⊎ HasNoDigit 8 j
octal_ended q ds i j some few low whole =
    elim (cases_lt (length ds) 3) [
      | inl short ↦ inr (no_digit_after q 8 (92 ∷ ds) i j whole (λ b digit.
          let size = length-append ds (b ∷ []) in
          (digits_value 8 (ds ++ b ∷ []), octal (omega (arith, size)) (omega (arith, size)) (digits_push 8 ds b low digit) refl)))
      | inr full ↦ inl (omega arith)
    ]

hexadecimal_ended : (q : ℕ) (ds i j : List ℕ) → 1 ≤ length ds → AllDigits 16 ds → IsLongest (IsSomeElement q) (92 ∷ 120 ∷ ds) i j → HasNoDigit 16 j
hexadecimal_ended q ds i j some low whole =
    no_digit_after q 16 (92 ∷ 120 ∷ ds) i j whole (λ b digit. (digits_value 16 (ds ++ b ∷ []), hexadecimal (omega (arith, length-append ds (b ∷ []))) (digits_push 16 ds b low digit) refl))

front_of : (q v : ℕ) (w i j : List ℕ) → IsElement q w v → IsLongest (IsSomeElement q) w i j → Front q i j v
front_of q v w i j (plain {b = b} p) whole = subst (λ (k : List ℕ). Front q k j b) (sym whole.stands) (a_plain p)
front_of q v w i j (simple {v = u} s) whole = subst (λ (k : List ℕ). Front q k j u) (sym whole.stands) (a_simple s)
front_of q v w i j (octal {digits = digits} {v = u} some few low value) whole = subst (λ (k : List ℕ). Front q k j u) (sym whole.stands) (an_octal digits refl some few low (octal_ended q digits i j some few low whole) value)
front_of q v w i j (hexadecimal {digits = digits} {v = u} some low value) whole = subst (λ (k : List ℕ). Front q k j u) (sym whole.stands) (a_hexadecimal digits refl some low (hexadecimal_ended q digits i j some low whole) value)

pub front : {q v : ℕ} {i j : List ℕ} → HasElement q i j v → Front q i j v
front {q} {v} {i} {j} h = front_of q v h.text i j h.element h.longest
