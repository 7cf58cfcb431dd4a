-- Where a literal ends is told by its first quote that no backslash precedes.
use Rattle.std.proofs.Common.{◌≡◌, ◌≢◌, ◌⊎◌, ◌≤◌, ◌<◌, ◌+◌, ℕ, suc, Bool, true, false, cond, nat_eq, List, [], ◌∷◌, ◌++◌, length, refl, ap, ◌∙◌, inl, inr, append_assoc, arith}
use Rattle.std.specs.Char.{digit_value}
use Rattle.std.specs.Str.Parse.{AllDigits}
use Rattle.std.proofs.lemmas.Bool.{ne_eqb, eq-eqb}
use Rattle.std.proofs.lemmas.List.{length-append}
use Rattle.c_lexer.specs.Literals.{IsElement, HasElements, IsCharacter, IsString}
use Rattle.c_lexer.specs.Literals.IsElement.{plain, simple, octal, hexadecimal}
use Rattle.c_lexer.specs.Literals.HasElements.{none, more}

-- a quote that ends a literal
abbrev pub IsMark : ℕ → Type 0
IsMark q = (q ≡ 39) ⊎ (q ≡ 34)

-- how many bytes stand before the first quote that no backslash precedes; whether one precedes the text is told
closing : ℕ → List ℕ → Bool → ℕ
closing q [] escaped = 0
closing q (b ∷ w) true = suc (closing q w false)
closing q (b ∷ w) false = cond (nat_eq b q) 0 (suc (closing q w (nat_eq b 92)))

closing_quote : (q : ℕ) (w : List ℕ) → closing q (q ∷ w) false ≡ 0
unfolding closing
closing_quote q w = rw (eq-eqb q q refl)

closing_byte : (q b : ℕ) (w : List ℕ) → b ≢ q → b ≢ 92 → closing q (b ∷ w) false ≡ suc (closing q w false)
unfolding closing
closing_byte q b w other bare = rw (ne_eqb b q other, ne_eqb b 92 bare)

closing_escape : (q c : ℕ) (w : List ℕ) → 92 ≢ q → closing q (92 ∷ c ∷ w) false ≡ suc (suc (closing q w false))
unfolding closing
closing_escape q c w other = rw (ne_eqb 92 q other)

mark_high : (q : ℕ) → IsMark q → 16 ≤ digit_value q
mark_high q (inl e) = rw e (omega arith)
mark_high q (inr e) = rw e (omega arith)

mark_no_backslash : (q : ℕ) → IsMark q → 92 ≢ q
mark_no_backslash q (inl e) f = omega arith
mark_no_backslash q (inr e) f = omega arith

digit_other : (d n : ℕ) → digit_value d < 16 → 16 ≤ digit_value n → d ≢ n
digit_other d n low high e =
    let same : digit_value d ≡ digit_value n = ap digit_value e in
    omega arith

closing_digits : (q radix : ℕ) → 16 ≤ digit_value q → radix ≤ 16 → (ds r : List ℕ) → AllDigits radix ds → closing q (ds ++ r) false ≡ length ds + closing q r false
closing_digits q radix high small [] r all = omega arith
closing_digits q radix high small (d ∷ ds) r all =
    let low : digit_value d < 16 = omega (arith, all.0) in
    let here = closing_byte q d (ds ++ r) (digit_other d q low high) (digit_other d 92 low (omega arith)) in
    let later = closing_digits q radix high small ds r all.1 in
    omega arith

closing_element : (q : ℕ) → IsMark q → {w : List ℕ} {v : ℕ} → IsElement q w v → (r : List ℕ) → closing q (w ++ r) false ≡ length w + closing q r false
closing_element q mark (plain {b = b} p) r =
    let here = closing_byte q b r p.no_quote p.no_backslash in
    omega arith
closing_element q mark (simple {c = c} s) r =
    let here = closing_escape q c r (mark_no_backslash q mark) in
    omega arith
closing_element q mark (octal {digits = []} some few all is) r = absurd (omega arith)
closing_element q mark (octal {digits = d ∷ ds} some few all is) r =
    let here = closing_escape q d (ds ++ r) (mark_no_backslash q mark) in
    let later = closing_digits q 8 (mark_high q mark) (omega arith) ds r all.1 in
    omega arith
closing_element q mark (hexadecimal {digits = ds} some all is) r =
    let here = closing_escape q 120 (ds ++ r) (mark_no_backslash q mark) in
    let later = closing_digits q 16 (mark_high q mark) (omega arith) ds r all in
    omega arith

closing_elements : (q : ℕ) → IsMark q → {i j vs : List ℕ} → HasElements q i j vs → (r : List ℕ) → closing q (i ++ r) false + length j ≡ length i + closing q (j ++ r) false
closing_elements q mark none r = omega arith
closing_elements q mark (more {i = i} {j = j} h hs) r =
    let stands : i ≡ h.text ++ j = h.longest.stands in
    let moved : i ++ r ≡ h.text ++ (j ++ r) = ap (λ (x : List ℕ). x ++ r) stands ∙ append_assoc h.text j r in
    let same : closing q (i ++ r) false ≡ closing q (h.text ++ (j ++ r)) false = ap (λ (x : List ℕ). closing q x false) moved in
    let here = closing_element q mark h.element (j ++ r) in
    let later = closing_elements q mark hs r in
    let all : length i ≡ length (h.text ++ j) = ap length stands in
    let size = length-append h.text j in
    omega arith

-- a literal between quotes
pub record Quoted (q : ℕ) (w : List ℕ) : Type 0 where
  pub inner : List ℕ
  pub values : List ℕ
  pub is : w ≡ q ∷ inner
  pub elements : HasElements q inner (q ∷ []) values

pub character_quoted : (w : List ℕ) (v : ℕ) → IsCharacter w v → Quoted 39 w
character_quoted w v (i, is, h) = record { inner = i; values = v ∷ []; is = is; elements = more h none }

pub string_quoted : (w vs : List ℕ) → IsString w vs → Quoted 34 w
string_quoted w vs (i, is, h) = record { inner = i; values = vs; is = is; elements = h }

same_inner : (q : ℕ) (a b w x r y : List ℕ) → w ≡ q ∷ a → x ≡ q ∷ b → w ++ r ≡ x ++ y → a ++ r ≡ b ++ y
same_inner q a b w x r y one other e = cc

-- two literals at the front of one text are of one length
pub quoted_short : (q : ℕ) → IsMark q → (w x r y : List ℕ) → Quoted q w → Quoted q x → w ++ r ≡ x ++ y → length x ≤ length w
quoted_short q mark w x r y one other e =
    let inner = same_inner q one.inner other.inner w x r y one.is other.is e in
    let same : closing q (one.inner ++ r) false ≡ closing q (other.inner ++ y) false = ap (λ (v : List ℕ). closing q v false) inner in
    let here = closing_elements q mark one.elements r in
    let there = closing_elements q mark other.elements y in
    let here_end = closing_quote q r in
    let there_end = closing_quote q y in
    let long : length w ≡ suc (length one.inner) = ap length one.is in
    let long_too : length x ≡ suc (length other.inner) = ap length other.is in
    omega arith
