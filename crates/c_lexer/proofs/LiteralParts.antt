-- The elements up to a quote are the same whatever follows the quote.
use Rattle.std.proofs.Common.{◌≡◌, ◌≢◌, ℕ, List, [], ◌∷◌, ◌++◌, refl, sym, ◌∙◌, ap, subst, inl, inr, ⊎_elim, append_assoc}
use Rattle.c_lexer.specs.Elements.{HasNoDigit}
use Rattle.c_lexer.specs.Literals.{HasElement, HasElements, IsCharacter, IsString}
use Rattle.c_lexer.specs.Literals.HasElements.{none, more}
use Rattle.c_lexer.proofs.EscapeFronts.{Front, front, has_element}
use Rattle.c_lexer.proofs.EscapeFronts.Front.{a_plain, a_simple, an_octal, a_hexadecimal}
use Rattle.c_lexer.proofs.LiteralOne.{front_first}

-- whether a digit stands first goes by the first byte
no_digit_append : (radix : ℕ) (j r : List ℕ) → j ≢ [] → HasNoDigit radix j → HasNoDigit radix (j ++ r)
no_digit_append radix [] r some ended = absurd (some refl)
no_digit_append radix (b ∷ j) r some ended = ended

no_digit_front : (radix : ℕ) (j r : List ℕ) → j ≢ [] → HasNoDigit radix (j ++ r) → HasNoDigit radix j
no_digit_front radix [] r some ended = absurd (some refl)
no_digit_front radix (b ∷ j) r some ended = ended

front_append : {q v : ℕ} {i j : List ℕ} (r : List ℕ) → j ≢ [] → Front q i j v → Front q (i ++ r) (j ++ r) v
front_append r some (a_plain p) = a_plain p
front_append r some (a_simple s) = a_simple s
front_append r some (an_octal digits {j = j} is one few low ended value) =
    an_octal digits (ap (λ (x : List ℕ). x ++ r) is ∙ append_assoc digits j r) one few low (⊎_elim inl (λ last. inr (no_digit_append 8 j r some last)) ended) value
front_append r some (a_hexadecimal digits {j = j} is one low ended value) =
    a_hexadecimal digits (ap (λ (x : List ℕ). x ++ r) is ∙ append_assoc digits j r) one low (no_digit_append 16 j r some ended) value

-- what precedes a text that goes on
abbrev CutFront : ℕ → List ℕ → List ℕ → List ℕ → ℕ → Type 0
CutFront q i j r v = (front : List ℕ) × (i ≡ front ++ r) × Front q front j v

front_cut : {q v : ℕ} {i k : List ℕ} (j r : List ℕ) → j ≢ [] → k ≡ j ++ r → Front q i k v → CutFront q i j r v
front_cut j r some e (a_plain {b = b} p) = (b ∷ j, ap (λ (x : List ℕ). b ∷ x) e, a_plain p)
front_cut j r some e (a_simple {c = c} s) = (92 ∷ c ∷ j, ap (λ (x : List ℕ). 92 ∷ c ∷ x) e, a_simple s)
front_cut j r some e (an_octal digits is one few low ended value) = (
  92 ∷ digits ++ j,
  ap (λ (x : List ℕ). 92 ∷ x) (is ∙ ap (λ (x : List ℕ). digits ++ x) e ∙ sym (append_assoc digits j r)),
  an_octal digits refl one few low (⊎_elim inl (λ last. inr (no_digit_front 8 j r some (subst (λ (x : List ℕ). HasNoDigit 8 x) e last))) ended) value,
)
front_cut j r some e (a_hexadecimal digits is one low ended value) = (
  92 ∷ 120 ∷ digits ++ j,
  ap (λ (x : List ℕ). 92 ∷ 120 ∷ x) (is ∙ ap (λ (x : List ℕ). digits ++ x) e ∙ sym (append_assoc digits j r)),
  a_hexadecimal digits refl one low (no_digit_front 16 j r some (subst (λ (x : List ℕ). HasNoDigit 16 x) e ended)) value,
)

pub element_append : {q v : ℕ} {i j : List ℕ} (r : List ℕ) → j ≢ [] → HasElement q i j v → HasElement q (i ++ r) (j ++ r) v
element_append r some h = has_element (front_append r some (front h))

pub element_cut : {q v : ℕ} {i : List ℕ} (j r : List ℕ) → j ≢ [] → HasElement q i (j ++ r) v → (part : List ℕ) × (i ≡ part ++ r) × HasElement q part j v
element_cut j r some h =
    let (part, is, found) = front_cut j r some refl (front h) in
    (part, is, has_element found)

-- elements that end before some text begin in some text
elements_some : {q : ℕ} {i j vs : List ℕ} → j ≢ [] → HasElements q i j vs → i ≢ []
elements_some some none = some
elements_some some (more h hs) = λ e.
    let (b, rest, is, other) = front_first (front h) in
    cc

pub elements_append : {q : ℕ} {i j vs : List ℕ} (r : List ℕ) → j ≢ [] → HasElements q i j vs → HasElements q (i ++ r) (j ++ r) vs
elements_append r some none = none
elements_append r some (more h hs) = more (element_append r (elements_some some hs) h) (elements_append r some hs)

pub elements_cut : {q : ℕ} {i k vs : List ℕ} (j r : List ℕ) → j ≢ [] → k ≡ j ++ r → HasElements q i k vs → (part : List ℕ) × (i ≡ part ++ r) × HasElements q part j vs
elements_cut j r some e none = (j, e, none)
elements_cut {q} j r some e (more {i = i} {v = v} h hs) =
    let (middle, is, later) = elements_cut j r some e hs in
    let (part, begins, first) = element_cut middle r (elements_some some later) (subst (λ (x : List ℕ). HasElement q i x v) is h) in
    (part, begins, more first later)

-- one more element at the end
pub elements_push : {q u : ℕ} {i j k vs : List ℕ} → HasElements q i j vs → HasElement q j k u → HasElements q i k (vs ++ u ∷ [])
elements_push none g = more g none
elements_push (more h hs) g = more h (elements_push hs g)

-- a literal at the front of a text
pub character_parts : {v : ℕ} {w : List ℕ} (r : List ℕ) → IsCharacter w v → (i : List ℕ) × (w ++ r ≡ 39 ∷ i) × HasElement 39 i (39 ∷ r) v
character_parts r (i, is, h) = (i ++ r, ap (λ (x : List ℕ). x ++ r) is, element_append r (λ e. cc) h)

pub string_parts : {w vs : List ℕ} (r : List ℕ) → IsString w vs → (i : List ℕ) × (w ++ r ≡ 34 ∷ i) × HasElements 34 i (34 ∷ r) vs
string_parts r (i, is, h) = (i ++ r, ap (λ (x : List ℕ). x ++ r) is, elements_append r (λ e. cc) h)

pub character_from : {v : ℕ} {i : List ℕ} (r : List ℕ) → HasElement 39 i (39 ∷ r) v → (w : List ℕ) × (39 ∷ i ≡ w ++ r) × IsCharacter w v
character_from r h =
    let (part, is, found) = element_cut (39 ∷ []) r (λ e. cc) h in
    (39 ∷ part, ap (λ (x : List ℕ). 39 ∷ x) is, (part, refl, found))

pub string_from : {i vs : List ℕ} (r : List ℕ) → HasElements 34 i (34 ∷ r) vs → (w : List ℕ) × (34 ∷ i ≡ w ++ r) × IsString w vs
string_from r h =
    let (part, is, found) = elements_cut (34 ∷ []) r (λ e. cc) refl h in
    (34 ∷ part, ap (λ (x : List ℕ). 34 ∷ x) is, (part, refl, found))
