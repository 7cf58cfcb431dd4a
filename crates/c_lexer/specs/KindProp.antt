-- That a kind is one that some text spells has one proof at most.
use Rattle.std.specs.Prelude.{◌≡◌, ◌≤◌, ◌⊎◌, ℕ, true, false}
use Rattle.std.proofs.Common.{inl, inr, ap, arith}
use Rattle.std.proofs.Props.{props}
use Rattle.dm_base.specs.Name.{IsLetter, IsDigit}
use Rattle.c_lexer.specs.declared.token.TokenKind.{TokenKind}
use Rattle.c_lexer.specs.declared.token.TokenKind.TheVariants.{Name, Keyword, Int, Char, Str, Punct}
use Rattle.c_lexer.specs.Kinds.{IsKind}

apart_prop : {A B : Type 0} → IsProp A → IsProp B → (A → B → ⊥) → IsProp (A ⊎ B)
apart_prop p q apart (inl a) (inl b) = ap inl (p a b)
apart_prop p q apart (inl a) (inr b) = absurd (apart a b)
apart_prop p q apart (inr a) (inl b) = absurd (apart b a)
apart_prop p q apart (inr a) (inr b) = ap inr (q a b)

underscore_apart : (b : ℕ) → IsProp (((97 ≤ b) × (b ≤ 122)) ⊎ (b ≡ 95))
underscore_apart b = apart_prop (hlevel props) (hlevel props) (λ x y. omega arith)

small_apart : (b : ℕ) → (65 ≤ b) × (b ≤ 90) → ((97 ≤ b) × (b ≤ 122)) ⊎ (b ≡ 95) → ⊥
small_apart b x (inl y) = omega arith
small_apart b x (inr y) = omega arith

letter_prop : (b : ℕ) → IsProp (IsLetter b)
letter_prop b = apart_prop (hlevel props) (underscore_apart b) (small_apart b)

digit_apart : (b : ℕ) → IsLetter b → IsDigit b → ⊥
digit_apart b (inl x) d = omega arith
digit_apart b (inr (inl x)) d = omega arith
digit_apart b (inr (inr x)) d = omega arith

word_prop : (b : ℕ) → IsProp (IsLetter b ⊎ IsDigit b)
word_prop b = apart_prop (letter_prop b) (hlevel props) (digit_apart b)

pub IsKind-prop : (kind : TokenKind) → IsProp (IsKind kind)
IsKind-prop (Name name) = hlevel (props, letter_prop, word_prop)
IsKind-prop (Keyword k) = hlevel props
IsKind-prop (Int value true) = hlevel props
IsKind-prop (Int value false) = hlevel props
IsKind-prop (Char c) = hlevel props
IsKind-prop (Str bytes) = hlevel props
IsKind-prop (Punct p) = hlevel props
