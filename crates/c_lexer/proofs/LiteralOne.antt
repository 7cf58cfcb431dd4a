-- One text has one element, one list of elements and one literal at its front.
use Rattle.std.proofs.Common.{◌≡◌, ◌≢◌, ℕ, nat_eq, nat_lt, cond, true, false, List, [], ◌∷◌, ◌++◌, length, refl, sym, ◌∙◌, subst, inl, inr, arith}
use Rattle.std.specs.Char.{digit_value}
use Rattle.std.proofs.lemmas.Bool.{ne_eqb, lt-ltb}
use Rattle.c_lexer.specs.Elements.{IsQuote, HasNoElement}
use Rattle.c_lexer.specs.Literals.{IsElement, HasElement, HasElements, IsCharacter, IsString}
use Rattle.c_lexer.specs.Literals.IsElement.{plain, simple, octal, hexadecimal}
use Rattle.c_lexer.specs.Literals.HasElements.{none, more}
use Rattle.c_lexer.proofs.EscapeDigits.{escape_value, octal_no_x, simple_facts}
use Rattle.c_lexer.proofs.EscapeFronts.{Front, front}
use Rattle.c_lexer.proofs.EscapeFronts.Front.{a_plain, a_simple, an_octal, a_hexadecimal}

-- what a text stands for as an element
abbrev element_value : List ℕ → ℕ
element_value [] = 0
element_value (b ∷ rest) = cond (nat_eq b 92) (escape_value rest) b

value_is : {q v : ℕ} {w : List ℕ} → IsElement q w v → v ≡ element_value w
value_is (plain {b = b} p) = rw (ne_eqb b 92 p.no_backslash)
value_is (simple s) = (simple_facts s).2
value_is (octal {digits = []} some few low is) = omega arith
value_is (octal {digits = c ∷ ds} some few low is) =
    let other : nat_eq c 120 ≡ false = ne_eqb c 120 (octal_no_x c low.0) in
    let small : nat_lt (digit_value c) 8 ≡ true = lt-ltb (digit_value c) 8 low.0 in
    rw (other, small) is
value_is (hexadecimal some low is) = is

no_backslash : (q : ℕ) → IsQuote q → 92 ≢ q
no_backslash q (inl e) f = omega arith
no_backslash q (inr e) f = omega arith

-- an element's text has one value
pub one_value : {q v u : ℕ} {w : List ℕ} → IsElement q w v → IsElement q w u → v ≡ u
one_value h g = value_is h ∙ sym (value_is g)

-- parts of one text that are of one length
pub same_parts : (x y j k : List ℕ) → x ++ j ≡ y ++ k → length x ≡ length y → (x ≡ y) × (j ≡ k)
same_parts [] [] j k e l = (refl, e)
same_parts (b ∷ x) (c ∷ y) j k e l =
    let first : b ≡ c = cc in
    let later = same_parts x y j k (cc) (omega arith) in
    (let same : x ≡ y = later.0 in cc, later.1)
same_parts x y j k e l = absurd (omega arith)

-- one element stands first
pub one_element : {q v u : ℕ} {i j k : List ℕ} → HasElement q i j v → HasElement q i k u → (j ≡ k) × (v ≡ u)
one_element {q} {v} {u} {i} {j} {k} h g =
    let short = h.longest.longest g.text k g.longest.stands (u, g.element) in
    let long = g.longest.longest h.text j h.longest.stands (v, h.element) in
    let same = same_parts h.text g.text j k (sym h.longest.stands ∙ g.longest.stands) (omega arith) in
    (same.1, one_value (subst (λ (w : List ℕ). IsElement q w v) same.0 h.element) g.element)

-- a text at whose front an element stands has a first byte, which is no quote
pub front_first : {q v : ℕ} {i j : List ℕ} → Front q i j v → (b : ℕ) × (rest : List ℕ) × (i ≡ b ∷ rest) × (IsQuote q → b ≢ q)
front_first (a_plain {b} {j} p) = (b, j, refl, λ _. p.no_quote)
front_first (a_simple {c} {v} {j} s) = (92, c ∷ j, refl, λ quote e. no_backslash _ quote e)
front_first (an_octal digits {i} is some few low ended value) = (92, i, refl, λ quote e. no_backslash _ quote e)
front_first (a_hexadecimal digits {i} is some low ended value) = (92, 120 ∷ i, refl, λ quote e. no_backslash _ quote e)

-- no element begins with the quote
pub quote_no_element : (q : ℕ) (r : List ℕ) → IsQuote q → HasNoElement q (q ∷ r)
quote_no_element q r quote j v h =
    let (b, rest, is, other) = front_first (front h) in
    other quote cc

-- one list of elements stands first, up to where none does
pub one_chain : {q : ℕ} {i j k vs us : List ℕ} → HasElements q i j vs → HasNoElement q j → HasElements q i k us → HasNoElement q k → (j ≡ k) × (vs ≡ us)
one_chain none stop none end = (refl, refl)
one_chain none stop (more {j = m} {v = u} g gs) end = absurd (stop m u g)
one_chain (more {j = m} {v = v} h hs) stop none end = absurd (end m v h)
one_chain {q} {i} {j} {k} (more {v = v} {vs = vs} h hs) stop (more {v = u} {vs = us} g gs) end =
    let both = one_element h g in
    let later = one_chain hs stop (subst (λ (m : List ℕ). HasElements q m k us) (sym both.0) gs) end in
    let first : v ≡ u = both.1 in
    let rest : vs ≡ us = later.1 in
    (later.0, cc)

-- the elements up to a quote
pub one_ended : (q : ℕ) {i r s vs us : List ℕ} → IsQuote q → HasElements q i (q ∷ r) vs → HasElements q i (q ∷ s) us → (r ≡ s) × (vs ≡ us)
one_ended q {r = r} {s = s} quote h g =
    let both = one_chain h (quote_no_element q r quote) g (quote_no_element q s quote) in
    let same : q ∷ r ≡ q ∷ s = both.0 in
    (cc, both.1)

-- a literal has one value
pub one_character : {w : List ℕ} {v u : ℕ} → IsCharacter w v → IsCharacter w u → v ≡ u
one_character {w} {v} {u} (i, is, h) (k, is_too, g) =
    let same : i ≡ k = cc in
    (one_element h (subst (λ (x : List ℕ). HasElement 39 x (39 ∷ []) u) (sym same) g)).1

pub one_string : {w vs us : List ℕ} → IsString w vs → IsString w us → vs ≡ us
one_string {w} {vs} {us} (i, is, h) (k, is_too, g) =
    let same : i ≡ k = cc in
    (one_ended 34 (inr refl) h (subst (λ (x : List ℕ). HasElements 34 x (34 ∷ []) us) (sym same) g)).1
