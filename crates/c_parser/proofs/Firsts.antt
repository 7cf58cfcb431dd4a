-- What the token that stands first begins, told by its number.
use Rattle.std.proofs.Common.{◌≡◌, ◌≤◌, ◌⊎◌, inl, inr, ℕ, zero, suc, List, [], ◌∷◌, refl, ap, arith}
use Rattle.c_lexer.specs.declared.token.Token.{Token}
use Rattle.c_lexer.specs.declared.token.TokenKind.{TokenKind}
use Rattle.c_lexer.specs.declared.token.TokenKind.TheVariants.{Keyword, Punct}
use Rattle.c_lexer.specs.declared.punctuator.TheConstants.{RIGHT_BRACE}
use Rattle.c_lexer.specs.declared.keyword.TheConstants.{CASE, DEFAULT, ELSE, EXTERN, STATIC}
use Rattle.c_syntax.specs.Tokens.{IsKeyword}
use Rattle.c_syntax_printing.specs.Heads.{head, head_of_code, head_of_word, head_of_kind}
use Rattle.c_syntax_printing.specs.Starts.{start, start_of_word, start_of_kind}
use Rattle.c_parser_phrases.specs.Standing.{IsAt, IsAtKeyword}
use Rattle.c_parser_phrases.specs.Looking.{IsAtSpecifier}
use Rattle.c_syntax_printing.proofs.ElseWord.{else_stands}
use Rattle.c_syntax_printing.proofs.PartOpens.{code_low}
pub use Rattle.c_parser_phrases.proofs.Raising.{not_at, not_at_word}

-- no token with the punctuator, or with the keyword, stands first

-- the number of the first token tells what stands there

code_of_brace : (code : ℕ) → head_of_code code ≡ 5 → code ≡ RIGHT_BRACE
code_of_brace (suc (suc (suc (suc (suc (suc (suc (suc (suc (suc (suc (suc (suc (suc (suc (suc (suc (suc (suc (suc (suc (suc (suc (suc (suc (suc (suc (suc (suc (suc (suc (suc (suc (suc (suc (suc (suc (suc (suc (suc (suc (suc (suc (suc (suc n))))))))))))))))))))))))))))))))))))))))))))) h = omega (arith, h)
code_of_brace code h = omega (arith, h)

word_of_brace : (word : ℕ) → head_of_word word ≡ 5 → ⊥
word_of_brace (suc (suc (suc (suc (suc (suc (suc (suc (suc (suc (suc (suc (suc (suc (suc (suc (suc (suc (suc (suc (suc (suc n)))))))))))))))))))))) h = omega (arith, h)
word_of_brace word h = omega (arith, h)

kind_of_brace : (k : TokenKind) → head_of_kind k ≡ 5 → k ≡ Punct RIGHT_BRACE
unfolding head_of_kind
kind_of_brace (Punct code) h = ap Punct (code_of_brace code h)
kind_of_brace (Keyword word) h = absurd (word_of_brace word h)
kind_of_brace k h = absurd (omega (arith, h))

pub no_brace : (i : List Token) → (IsAt RIGHT_BRACE i → ⊥) → head i ≡ 5 → ⊥
no_brace [] f h = omega (arith, h)
no_brace (t ∷ j) f h = f (record { kind = kind_of_brace t.kind h })

pub else_at : (i : List Token) → head i ≡ 13 → IsAtKeyword ELSE i
else_at [] h = absurd (omega (arith, h))
else_at (t ∷ j) h = else_stands h

-- labels

code_of_label : (code : ℕ) → 11 ≤ head_of_code code → head_of_code code ≤ 12 → ⊥
code_of_label (suc (suc (suc (suc (suc (suc (suc (suc (suc (suc (suc (suc (suc (suc (suc (suc (suc (suc (suc (suc (suc (suc (suc (suc (suc (suc (suc (suc (suc (suc (suc (suc (suc (suc (suc (suc (suc (suc (suc (suc (suc (suc (suc (suc (suc n))))))))))))))))))))))))))))))))))))))))))))) l u = omega (arith, l, u)
code_of_label code l u = omega (arith, l, u)

word_of_label : (word : ℕ) → 11 ≤ head_of_word word → head_of_word word ≤ 12 → (word ≡ CASE) ⊎ (word ≡ DEFAULT)
word_of_label (suc (suc (suc (suc (suc (suc (suc (suc (suc (suc (suc (suc (suc (suc (suc (suc (suc (suc (suc (suc (suc (suc n)))))))))))))))))))))) l u = absurd (omega (arith, u))
word_of_label (suc zero) l u = inl refl
word_of_label (suc (suc (suc (suc (suc zero))))) l u = inr refl
word_of_label word l u = absurd (omega (arith, l, u))

kind_of_label : (k : TokenKind) → 11 ≤ head_of_kind k → head_of_kind k ≤ 12 → (k ≡ Keyword CASE) ⊎ (k ≡ Keyword DEFAULT)
unfolding head_of_kind
kind_of_label (Punct code) l u = absurd (code_of_label code l u)
kind_of_label (Keyword word) l u = elim (word_of_label word l u) [ inl q ↦ inl (ap Keyword q) | inr q ↦ inr (ap Keyword q) ]
kind_of_label k l u = absurd (omega (arith, u))

label_at : {t : Token} → (IsKeyword CASE t → ⊥) → (IsKeyword DEFAULT t → ⊥) → (t.kind ≡ Keyword CASE) ⊎ (t.kind ≡ Keyword DEFAULT) → ⊥
label_at f g (inl q) = f (record { kind = q })
label_at f g (inr q) = g (record { kind = q })

pub no_label_at : (i : List Token) → (IsAtKeyword CASE i → ⊥) → (IsAtKeyword DEFAULT i → ⊥) → 11 ≤ head i → head i ≤ 12 → ⊥
no_label_at [] f g l u = omega (arith, l)
no_label_at (t ∷ j) f g l u = label_at f g (kind_of_label t.kind l u)

-- specifiers

code_of_spec : (code : ℕ) → head_of_code code ≡ 2 → ⊥
code_of_spec (suc (suc (suc (suc (suc (suc (suc (suc (suc (suc (suc (suc (suc (suc (suc (suc (suc (suc (suc (suc (suc (suc (suc (suc (suc (suc (suc (suc (suc (suc (suc (suc (suc (suc (suc (suc (suc (suc (suc (suc (suc (suc (suc (suc (suc n))))))))))))))))))))))))))))))))))))))))))))) h = omega (arith, h)
code_of_spec code h = omega (arith, h)

word_of_spec : (word : ℕ) → head_of_word word ≡ 2 → (7 ≤ start_of_word word) × (start_of_word word ≤ 14)
word_of_spec (suc (suc (suc (suc (suc (suc (suc (suc (suc (suc (suc (suc (suc (suc (suc (suc (suc (suc (suc (suc (suc (suc n)))))))))))))))))))))) h = absurd (omega (arith, h))
word_of_spec word h = (omega (arith, h), omega (arith, h))

word_of_start : (word : ℕ) → 7 ≤ start_of_word word → start_of_word word ≤ 14 → head_of_word word ≡ 2
word_of_start (suc (suc (suc (suc (suc (suc (suc (suc (suc (suc (suc (suc (suc (suc (suc (suc (suc (suc (suc (suc (suc (suc n)))))))))))))))))))))) l u = omega (arith, l, u)
word_of_start word l u = omega (arith, l, u)

kind_of_spec : (k : TokenKind) → head_of_kind k ≡ 2 → (7 ≤ start_of_kind k) × (start_of_kind k ≤ 14)
unfolding head_of_kind start_of_kind
kind_of_spec (Punct code) h = absurd (code_of_spec code h)
kind_of_spec (Keyword word) h = word_of_spec word h
kind_of_spec k h = absurd (omega (arith, h))

start_of_spec : (k : TokenKind) → 7 ≤ start_of_kind k → start_of_kind k ≤ 14 → head_of_kind k ≡ 2
unfolding head_of_kind start_of_kind
start_of_spec (Punct code) l u = absurd (omega (arith, l, code_low code))
start_of_spec (Keyword word) l u = word_of_start word l u
start_of_spec k l u = absurd (omega (arith, l))

pub spec_at : {i : List Token} → IsAtSpecifier i → head i ≡ 2
spec_at {i = []} h = absurd (omega (arith, h.low))
spec_at {i = t ∷ j} h = start_of_spec t.kind h.low h.high

pub no_spec_at : {i : List Token} → (IsAtSpecifier i → ⊥) → head i ≡ 2 → ⊥
no_spec_at {i = []} f h = omega (arith, h)
no_spec_at {i = t ∷ j} f h = let s = kind_of_spec t.kind h in f (record { low = s.0; high = s.1 })

-- storage classes

word_of_storage : (word : ℕ) → (word ≡ STATIC → ⊥) → (word ≡ EXTERN → ⊥) → start_of_word word ≤ 14
word_of_storage (suc (suc (suc (suc (suc (suc (suc (suc (suc (suc (suc (suc (suc (suc (suc (suc (suc (suc (suc (suc (suc (suc n)))))))))))))))))))))) f g = omega arith
word_of_storage (suc (suc (suc (suc (suc (suc (suc (suc (suc zero))))))))) f g = absurd (g refl)
word_of_storage (suc (suc (suc (suc (suc (suc (suc (suc (suc (suc (suc (suc (suc (suc (suc (suc zero)))))))))))))))) f g = absurd (f refl)
word_of_storage word f g = omega arith

kind_of_storage : (k : TokenKind) → (k ≡ Keyword STATIC → ⊥) → (k ≡ Keyword EXTERN → ⊥) → start_of_kind k ≤ 14
unfolding start_of_kind
kind_of_storage (Punct code) f g = omega (arith, code_low code)
kind_of_storage (Keyword word) f g = word_of_storage word (λ q. f (ap Keyword q)) (λ q. g (ap Keyword q))
kind_of_storage k f g = omega arith

pub no_storage_first : (i : List Token) → (IsAtKeyword STATIC i → ⊥) → (IsAtKeyword EXTERN i → ⊥) → start i ≤ 14
no_storage_first [] f g = omega arith
no_storage_first (t ∷ j) f g = kind_of_storage t.kind (λ q. f (record { kind = q })) (λ q. g (record { kind = q }))
