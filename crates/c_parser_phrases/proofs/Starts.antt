-- What the token that stands first begins, told by its number.
use Rattle.std.proofs.Common.{◌≡◌, ◌≤◌, ℕ, zero, suc, List, [], ◌∷◌, refl, sym, ap, arith}
use Rattle.c_lexer.specs.declared.token.Token.{Token}
use Rattle.c_lexer.specs.declared.token.TokenKind.{TokenKind}
use Rattle.c_lexer.specs.declared.token.TokenKind.TheVariants.{Name, Keyword, Punct}
use Rattle.c_lexer.specs.declared.punctuator.TheConstants.{LEFT_BRACKET, LEFT_PARENTHESIS, ASTERISK, INCREMENT, DECREMENT}
use Rattle.c_lexer.specs.declared.keyword.TheConstants.{SIZEOF}
use Rattle.c_syntax_printing.specs.Starts.{start, start_of_kind, start_of_code, start_of_word}
use Rattle.c_parser_phrases.specs.Standing.{IsAt, IsAtKeyword}

word_apart : {n : ℕ} (word : ℕ) → start_of_word word ≡ n → 2 ≤ n → n ≤ 6 → ⊥
word_apart (suc (suc (suc (suc (suc (suc (suc (suc (suc (suc (suc (suc (suc (suc (suc (suc (suc (suc (suc (suc (suc (suc n)))))))))))))))))))))) q l u = omega (arith, q, l)
word_apart word q l u = omega (arith, q, l, u)

-- a punctuator that alone has its number

kind_alone : {n mark : ℕ} → ((code : ℕ) → start_of_code code ≡ n → code ≡ mark) → 2 ≤ n → n ≤ 6 → (n ≡ 3 → ⊥) → (n ≡ 5 → ⊥) → (k : TokenKind) → start_of_kind k ≡ n → k ≡ Punct mark
unfolding start_of_kind
kind_alone f l u a b (Punct code) q = ap Punct (f code q)
kind_alone f l u a b (Keyword word) q = absurd (word_apart word q l u)
kind_alone f l u a b (Name name) q = absurd (b (sym q))
kind_alone f l u a b k q = absurd (a (sym q))

stands_alone : {n mark : ℕ} → ((code : ℕ) → start_of_code code ≡ n → code ≡ mark) → 2 ≤ n → n ≤ 6 → (n ≡ 3 → ⊥) → (n ≡ 5 → ⊥) → (i : List Token) → start i ≡ n → IsAt mark i
stands_alone f l u a b [] q = absurd (omega (arith, l, q))
stands_alone f l u a b (t ∷ i) q = record { kind = kind_alone f l u a b t.kind q }

code_of_opening : (code : ℕ) → start_of_code code ≡ 4 → code ≡ LEFT_PARENTHESIS
code_of_opening (suc (suc (suc (suc (suc (suc (suc (suc (suc (suc (suc (suc (suc (suc (suc (suc n)))))))))))))))) q = omega (arith, q)
code_of_opening code q = omega (arith, q)

pub opening_there : (i : List Token) → start i ≡ 4 → IsAt LEFT_PARENTHESIS i
opening_there i q = stands_alone code_of_opening (omega arith) (omega arith) (λ e. omega arith) (λ e. omega arith) i q

code_of_star : (code : ℕ) → start_of_code code ≡ 2 → code ≡ ASTERISK
code_of_star (suc (suc (suc (suc (suc (suc (suc (suc (suc (suc (suc (suc (suc (suc (suc (suc n)))))))))))))))) q = omega (arith, q)
code_of_star code q = omega (arith, q)

pub star_there : (i : List Token) → start i ≡ 2 → IsAt ASTERISK i
star_there i q = stands_alone code_of_star (omega arith) (omega arith) (λ e. omega arith) (λ e. omega arith) i q

code_of_bracket : (code : ℕ) → start_of_code code ≡ 6 → code ≡ LEFT_BRACKET
code_of_bracket (suc (suc (suc (suc (suc (suc (suc (suc (suc (suc (suc (suc (suc (suc (suc (suc n)))))))))))))))) q = omega (arith, q)
code_of_bracket code q = omega (arith, q)

pub bracket_there : (i : List Token) → start i ≡ 6 → IsAt LEFT_BRACKET i
bracket_there i q = stands_alone code_of_bracket (omega arith) (omega arith) (λ e. omega arith) (λ e. omega arith) i q

-- a name

code_of_name : (code : ℕ) → start_of_code code ≡ 5 → ⊥
code_of_name (suc (suc (suc (suc (suc (suc (suc (suc (suc (suc (suc (suc (suc (suc (suc (suc n)))))))))))))))) q = omega (arith, q)
code_of_name code q = omega (arith, q)

pub kind_of_name : (k : TokenKind) → start_of_kind k ≡ 5 → (name : List ℕ) × (k ≡ Name name)
unfolding start_of_kind
kind_of_name (Punct code) q = absurd (code_of_name code q)
kind_of_name (Keyword word) q = absurd (word_apart word q (omega arith) (omega arith))
kind_of_name (Name name) q = (name, refl)
kind_of_name k q = absurd (omega (arith, q))

-- no prefix operator stands first

code_of_prefix : (code : ℕ) → (code ≡ INCREMENT → ⊥) → (code ≡ DECREMENT → ⊥) → (10 ≤ code → code ≤ 15 → ⊥) → 1 ≤ start_of_code code → 3 ≤ start_of_code code
code_of_prefix (suc (suc (suc (suc (suc (suc (suc (suc (suc (suc (suc (suc (suc (suc (suc (suc n)))))))))))))))) f g h l = absurd (omega (arith, l))
code_of_prefix (suc (suc (suc (suc (suc (suc (suc (suc zero)))))))) f g h l = absurd (f refl)
code_of_prefix (suc (suc (suc (suc (suc (suc (suc (suc (suc zero))))))))) f g h l = absurd (g refl)
code_of_prefix (suc (suc (suc (suc (suc (suc (suc (suc (suc (suc n)))))))))) f g h l = absurd (h (omega arith) (omega arith))
code_of_prefix code f g h l = omega (arith, l)

word_of_prefix : (word : ℕ) → (word ≡ SIZEOF → ⊥) → 1 ≤ start_of_word word → 3 ≤ start_of_word word
word_of_prefix (suc (suc (suc (suc (suc (suc (suc (suc (suc (suc (suc (suc (suc (suc (suc (suc (suc (suc (suc (suc (suc n))))))))))))))))))))) f l = absurd (omega (arith, l))
word_of_prefix (suc (suc (suc (suc (suc (suc (suc (suc (suc (suc (suc (suc (suc (suc (suc zero))))))))))))))) f l = absurd (f refl)
word_of_prefix word f l = omega (arith, l)

kind_of_prefix : (k : TokenKind) → (k ≡ Keyword SIZEOF → ⊥) → (k ≡ Punct INCREMENT → ⊥) → (k ≡ Punct DECREMENT → ⊥) → ((code : ℕ) → 10 ≤ code → code ≤ 15 → k ≡ Punct code → ⊥) → 1 ≤ start_of_kind k → 3 ≤ start_of_kind k
unfolding start_of_kind
kind_of_prefix (Punct code) f g h u l = code_of_prefix code (λ q. g (ap Punct q)) (λ q. h (ap Punct q)) (λ a b. u code a b refl) l
kind_of_prefix (Keyword word) f g h u l = word_of_prefix word (λ q. f (ap Keyword q)) l
kind_of_prefix k f g h u l = omega arith

pub no_prefix_there : (i : List Token) → (IsAtKeyword SIZEOF i → ⊥) → (IsAt INCREMENT i → ⊥) × (IsAt DECREMENT i → ⊥) → ((code : ℕ) → 10 ≤ code → code ≤ 15 → IsAt code i → ⊥) → 1 ≤ start i → 3 ≤ start i
no_prefix_there [] f g u l = absurd (omega (arith, l))
no_prefix_there (t ∷ i) f g u l = kind_of_prefix t.kind (λ q. f (record { kind = q })) (λ q. g.0 (record { kind = q })) (λ q. g.1 (record { kind = q })) (λ code a b q. u code a b (record { kind = q })) l

-- no leaf

code_of_leaf : (code : ℕ) → start_of_code code ≡ 3 → ⊥
code_of_leaf (suc (suc (suc (suc (suc (suc (suc (suc (suc (suc (suc (suc (suc (suc (suc (suc n)))))))))))))))) q = omega (arith, q)
code_of_leaf code q = omega (arith, q)

pub leaf_code : (code : ℕ) → (start_of_kind (Punct code) ≡ 3 → ⊥) × (start_of_kind (Punct code) ≡ 5 → ⊥)
unfolding start_of_kind
leaf_code code = (code_of_leaf code, code_of_name code)

pub leaf_word : (word : ℕ) → (start_of_kind (Keyword word) ≡ 3 → ⊥) × (start_of_kind (Keyword word) ≡ 5 → ⊥)
unfolding start_of_kind
leaf_word word = (λ q. word_apart word q (omega arith) (omega arith), λ q. word_apart word q (omega arith) (omega arith))
