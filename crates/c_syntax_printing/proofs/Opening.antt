-- How tokens that go on past the limits in a part go on in the whole.
use Rattle.std.proofs.Common.{List, ◌∷◌}
use Rattle.c_lexer.specs.declared.token.Token.{Token}
use Rattle.c_syntax_printing.specs.Twins.{here, along, On}
use Rattle.c_syntax_printing.proofs.Twins.{glue}
use Rattle.c_syntax_printing.specs.Fails.{at_token, Then, then, One, one}
use Rattle.c_syntax_printing.specs.Opens.{Opens, Filled}

pub opens_as : {A B : List Token → List Token → Type 0} {i r : List Token} → ((k m : List Token) → A k m → B k m) → Opens A i r → Opens B i r
opens_as f o = record { before = λ m. let x = o.before m in record { other = x.other; meets = x.meets; tokens = x.tokens; twin = x.twin; reads = f _ _ x.reads } }

pub opens_under : {A B : List Token → List Token → Type 0} {t : Token} {i r : List Token} → ((k m : List Token) → A k m → B (t ∷ k) m) → Opens A i r → Opens B (t ∷ i) r
opens_under {t = t} f o = record { before = λ m. let x = o.before m in record { other = x.other; meets = x.meets; tokens = t ∷ x.tokens; twin = along x.twin; reads = f _ _ x.reads } }

-- the first of two phrases opens, and the second one can be written
pub opens_first : {A B : List Token → List Token → Type 0} {i r : List Token} → ((m : List Token) → Filled B m) → Opens A i r → Opens (Then A B) i r
opens_first f o = record { before = λ m. let y = f m in let x = o.before y.tokens in record { other = x.other; meets = x.meets; tokens = x.tokens; twin = x.twin; reads = then x.reads y.reads } }

-- the first of two phrases stands, and the second one opens
pub opens_later : {A B : List Token → List Token → Type 0} {i j r : List Token} → ((k : List Token) → On A i j k) → Opens B j r → Opens (Then A B) i r
opens_later f o = record {
  before = λ m.
      let x = o.before m in
      let y = f x.tokens in
      record { other = x.other; meets = x.meets; tokens = y.tokens; twin = glue x.twin y.twin; reads = then y.reads x.reads };
}

-- a phrase stands, and what goes on behind it opens
pub opens_past : {A B : List Token → List Token → Type 0} {i j r : List Token} → ((k : List Token) → On A i j k) → Opens (λ l m. (k : List Token) → A k l → B k m) j r → Opens B i r
opens_past f o = record {
  before = λ m.
      let x = o.before m in
      let y = f x.tokens in
      record { other = x.other; meets = x.meets; tokens = y.tokens; twin = glue x.twin y.twin; reads = x.reads _ y.reads };
}

-- what opens can be gone on with
pub opens_before : {A B : List Token → List Token → Type 0} {i r : List Token} → Opens A i r → ((m : List Token) → Filled (λ l n. (k : List Token) → A k l → B k n) m) → Opens B i r
opens_before o f = record { before = λ m. let y = f m in let x = o.before y.tokens in record { other = x.other; meets = x.meets; tokens = x.tokens; twin = x.twin; reads = y.reads _ x.reads } }

-- behind a token
pub opens_token : {B : List Token → List Token → Type 0} {t : Token} {i r : List Token} → Opens (λ k m. B (t ∷ k) m) i r → Opens B (t ∷ i) r
opens_token o = opens_under (λ k m a. a) o

-- at the token itself
pub opens_here : {A : List Token → List Token → Type 0} {t : Token} {i : List Token} → ((m : List Token) → Filled (λ k n. A (t ∷ k) n) m) → Opens A (t ∷ i) (t ∷ i)
opens_here {t = t} f = record { before = λ m. let x = f m in record { other = t ∷ x.tokens; meets = at_token; tokens = t ∷ x.tokens; twin = here; reads = x.reads } }

-- a token after another phrase
pub closed_by : {P : Token → Type 0} (t : Token) → P t → (m : List Token) → Filled (One P) m
closed_by t h m = record { tokens = t ∷ m; reads = one h }
