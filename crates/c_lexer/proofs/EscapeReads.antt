-- What the readers of an escape answer.
use Rattle.std.proofs.Common.{◌≡◌, ◌≢◌, ◌⊎◌, ℕ, suc, ◌+◌, ◌<◌, ◌≤◌, min, List, [], ◌∷◌, ◌++◌, length, get_or, take, drop, refl, sym, ◌∙◌, ap, subst, inl, inr, append_assoc, arith}
use Rattle.std.specs.Prelude.{Option, Some, None, is_some, true}
use Rattle.std.specs.Char.{digit_value}
use Rattle.std.specs.Str.Parse.{AllDigits, digits_value}
use Rattle.std.proofs.lemmas.Bool.{cases_lt}
use Rattle.std.proofs.lemmas.List.{length-drop, length-take-le, take-append-drop, drop-append-le, nil_from_length}
use Rattle.c_lexer.specs.declared.escape.Digits.{Digits}
use Rattle.c_lexer.specs.Elements.{HasNoDigit, KeepsByte, ReadsDigits, ReadsSimple, HasNoElement}
use Rattle.c_lexer.specs.Literals.{IsPlain, IsSimple, HasElement}
use Rattle.c_lexer.proofs.EscapeDigits.{octal_no_x, simple_facts}
use Rattle.c_lexer.proofs.EscapeFronts.{Front, front, has_element}
use Rattle.c_lexer.proofs.EscapeFronts.Front.{a_plain, a_simple, an_octal, a_hexadecimal}

-- the element that stands first, as n bytes
abbrev pub Stands : ℕ → List ℕ → ℕ → Option ℕ → Type 0
Stands q i n value = (n ≤ length i) × ((v : ℕ) × HasElement q i (drop n i) v × KeepsByte v value)

no_digits : (radix : ℕ) (i ds j : List ℕ) → HasNoDigit radix i → i ≡ ds ++ j → 1 ≤ length ds → AllDigits radix ds → ⊥
no_digits radix i [] j ended e one all = omega arith
no_digits radix [] (d ∷ ds) j ended e one all = cc
no_digits radix (b ∷ i) (d ∷ ds) j ended e one all =
    let same : b ≡ d = cc in
    let high : radix ≤ digit_value d = subst (λ (x : ℕ). radix ≤ digit_value x) same ended in
    omega (arith, all.0)

-- what stands first after a backslash
no_hexadecimal : {q v : ℕ} {k j : List ℕ} (i : List ℕ) → HasNoDigit 16 i → k ≡ 92 ∷ 120 ∷ i → Front q k j v → ⊥
no_hexadecimal i ended e (a_plain p) = p.no_backslash cc
no_hexadecimal i ended e (a_simple s) = (simple_facts s).1 cc
no_hexadecimal i ended e (an_octal [] is one few low end value) = omega arith
no_hexadecimal i ended e (an_octal (d ∷ ds) is one few low end value) = octal_no_x d low.0 cc
no_hexadecimal i ended e (a_hexadecimal ds {i = k} {j = j} is one low end value) =
    let same : i ≡ k = cc in
    no_digits 16 i ds j ended (same ∙ is) one low

no_octal : {q v : ℕ} {k j : List ℕ} (i : List ℕ) → HasNoDigit 8 i → get_or i 0 0 ≢ 120 → ((u : ℕ) → IsSimple (get_or i 0 0) u → ⊥) → k ≡ 92 ∷ i → Front q k j v → ⊥
no_octal i ended other complex e (a_plain p) = p.no_backslash cc
no_octal i ended other complex e (a_simple {c = c} {v = v} {j = j} s) =
    let same : c ∷ j ≡ i = cc in
    complex v (subst (λ (x : List ℕ). IsSimple (get_or x 0 0) v) same s)
no_octal i ended other complex e (an_octal ds {i = k} {j = j} is one few low end value) =
    let same : i ≡ k = cc in
    no_digits 8 i ds j ended (same ∙ is) one low
no_octal i ended other complex e (a_hexadecimal ds {i = k} is one low end value) =
    let same : 120 ∷ k ≡ i = cc in
    other (sym (ap (λ (x : List ℕ). get_or x 0 0) same))

pub hexadecimal_none : (q : ℕ) (i : List ℕ) (d : Digits) → ReadsDigits 16 i d → d.count ≡ 0 → HasNoElement q (92 ∷ 120 ∷ i)
hexadecimal_none q i d reads none j v h =
    no_hexadecimal i (subst (λ (n : ℕ). HasNoDigit 16 (drop n i)) none reads.ended) refl (front h)

pub hexadecimal_some : (q : ℕ) (i : List ℕ) (d : Digits) → ReadsDigits 16 i d → d.count ≢ 0 → Stands q (92 ∷ 120 ∷ i) (d.count + 2) d.value
hexadecimal_some q i d reads some =
    let size : length (take d.count i) ≡ d.count = length-take-le d.count i reads.within in
    let all : i ≡ take d.count i ++ drop d.count i = sym (take-append-drop d.count i) in
    let found : HasElement q (92 ∷ 120 ∷ i) (drop d.count i) (digits_value 16 (take d.count i)) = has_element (a_hexadecimal (take d.count i) all (omega arith) reads.are reads.ended refl) in
    let is : suc (suc d.count) ≡ d.count + 2 = omega arith in
    let within = reads.within in
    (omega arith, (digits_value 16 (take d.count i), subst (λ (n : ℕ). HasElement q (92 ∷ 120 ∷ i) (drop n (92 ∷ 120 ∷ i)) (digits_value 16 (take d.count i))) is found, reads.value))

-- the first three bytes decide
no_digit_short : (i : List ℕ) → HasNoDigit 8 (take (min (length i) 3) i) → HasNoDigit 8 i
no_digit_short [] ended = tt
no_digit_short (b ∷ i) ended =
    let m : ℕ = min (length i) 2 in
    let is : min (length (b ∷ i)) 3 ≡ suc m = omega arith in
    subst (λ (n : ℕ). HasNoDigit 8 (take n (b ∷ i))) is ended

pub octal_none : (q : ℕ) (i : List ℕ) (d : Digits) → ReadsDigits 8 (take (min (length i) 3) i) d → get_or i 0 0 ≢ 120 → ((u : ℕ) → IsSimple (get_or i 0 0) u → ⊥) → d.count ≡ 0 → HasNoElement q (92 ∷ i)
octal_none q i d reads other complex none j v h =
    no_octal i (no_digit_short i (subst (λ (n : ℕ). HasNoDigit 8 (drop n (take (min (length i) 3) i))) none reads.ended)) other complex refl (front h)

-- what follows digits in a part of three bytes, or in a whole text, follows them in the text
ended_tail : (t b : List ℕ) (n k : ℕ) → length t + n ≡ k → (k ≡ 3) ⊎ (b ≡ []) → HasNoDigit 8 t → (n ≡ 3) ⊎ HasNoDigit 8 (t ++ b)
ended_tail [] b n k is (inl full) ended = inl (omega arith)
ended_tail [] b n k is (inr none) ended = inr (rw none tt)
ended_tail (x ∷ t) b n k is whole ended = inr ended

three_or_all : (i : List ℕ) → (min (length i) 3 ≡ 3) ⊎ (drop (min (length i) 3) i ≡ [])
three_or_all i =
    elim (cases_lt (length i) 3) [
      | inl short ↦
          let none : length (drop (min (length i) 3) i) ≡ 0 = rw length-drop (omega arith) in
          inr (nil_from_length (drop (min (length i) 3) i) none)
      | inr long ↦ inl (omega arith)
    ]

octal_found : (q n : ℕ) (i a b : List ℕ) → i ≡ a ++ b → n ≤ length a → 1 ≤ n → length a ≤ 3 → (length a ≡ 3) ⊎ (b ≡ []) → AllDigits 8 (take n a) → HasNoDigit 8 (drop n a) → HasElement q (92 ∷ i) (drop n i) (digits_value 8 (take n a))
octal_found q n i a b is within one few whole low ended =
    let size : length (take n a) ≡ n = length-take-le n a within in
    let left : length (drop n a) + n ≡ length a = rw length-drop (omega arith) in
    let rest : drop n i ≡ drop n a ++ b = ap (λ (x : List ℕ). drop n x) is ∙ drop-append-le n a b within in
    let all : i ≡ take n a ++ drop n i = rw rest (is ∙ ap (λ (x : List ℕ). x ++ b) (sym (take-append-drop n a)) ∙ append_assoc (take n a) (drop n a) b) in
    let end = ended_tail (drop n a) b n (length a) left whole ended in
    let end_too : (length (take n a) ≡ 3) ⊎ HasNoDigit 8 (drop n i) = rw (size, rest) end in
    has_element (an_octal (take n a) all (omega arith) (omega arith) low end_too refl)

pub octal_some : (q : ℕ) (i : List ℕ) (d : Digits) → ReadsDigits 8 (take (min (length i) 3) i) d → d.count ≢ 0 → Stands q (92 ∷ i) (d.count + 1) d.value
octal_some q i d reads some =
    let m : ℕ = min (length i) 3 in
    let size : length (take m i) ≡ m = length-take-le m i (omega arith) in
    let within = reads.within in
    let found = octal_found q d.count i (take m i) (drop m i) (sym (take-append-drop m i)) reads.within (omega arith) (omega arith) (rw size (three_or_all i)) reads.are reads.ended in
    let is : suc d.count ≡ d.count + 1 = omega arith in
    (omega arith, (digits_value 8 (take d.count (take m i)), subst (λ (n : ℕ). HasElement q (92 ∷ i) (drop n (92 ∷ i)) (digits_value 8 (take d.count (take m i)))) is found, reads.value))

pub simple_read : (q c : ℕ) (i later : List ℕ) (found : Option ℕ) → i ≡ c ∷ later → ReadsSimple c found → is_some found ≡ true → Stands q (92 ∷ i) 2 found
simple_read q c i later (Some v) is (s, small) some =
    let found : Stands q (92 ∷ c ∷ later) 2 (Some v) = (omega arith, (v, has_element (a_simple s), (refl, small))) in
    subst (λ (x : List ℕ). Stands q (92 ∷ x) 2 (Some v)) (sym is) found
simple_read q c i later None is s some = cc

pub plain_some : (q b : ℕ) (i later : List ℕ) → i ≡ b ∷ later → 32 ≤ b → b < 256 → b ≢ 127 → b ≢ q → b ≢ 92 → Stands q i 1 (Some b)
plain_some q b i later is from below control quote escape =
    let plain : IsPlain q b = record { from = from; below = below; no_control = control; no_quote = quote; no_backslash = escape } in
    let found : Stands q (b ∷ later) 1 (Some b) = (omega arith, (b, has_element (a_plain plain), (refl, omega arith))) in
    subst (λ (x : List ℕ). Stands q x 1 (Some b)) (sym is) found

no_front : {q v : ℕ} {i j : List ℕ} (b : ℕ) (later : List ℕ) → i ≡ b ∷ later → b ≢ 92 → (IsPlain q b → ⊥) → Front q i j v → ⊥
no_front {q} b later is escape odd (a_plain {b = x} p) =
    let same : x ≡ b = cc in
    odd (subst (λ (y : ℕ). IsPlain q y) same p)
no_front b later is escape odd (a_simple s) = escape cc
no_front b later is escape odd (an_octal ds e one few low end value) = escape cc
no_front b later is escape odd (a_hexadecimal ds e one low end value) = escape cc

pub plain_none : (q b : ℕ) (i later : List ℕ) → i ≡ b ∷ later → b ≢ 92 → ((32 ≤ b) × (b ≢ 127) × (b ≢ q) → ⊥) → HasNoElement q i
plain_none q b i later is escape odd j v h =
    no_front b later is escape (λ p. odd (p.from, p.no_control, p.no_quote)) (front h)
