-- What the rank of a token tells of it.
use Rattle.std.proofs.Common.{◌≡◌, ℕ, zero, suc, ◌≤◌, List, [], ◌∷◌, refl, sym, ap, ◌∙◌, subst, arith, ◌⊎◌, inl, inr}
use Rattle.std.specs.Prelude.{Bool, false, IsTrue, ◌↔◌, ◌<◌, length}
use Rattle.std.proofs.lemmas.Bool.{cases_lt}
use Rattle.c_lexer.specs.declared.token.Token.{Token}
use Rattle.c_lexer.specs.declared.token.TokenKind.{TokenKind}
use Rattle.c_lexer.specs.declared.token.TokenKind.TheVariants.{Punct}
use Rattle.c_lexer.specs.declared.punctuator.TheConstants.{QUESTION, COMMA, LEFT_BRACKET, LEFT_PARENTHESIS, DOT, ARROW, INCREMENT, DECREMENT}
use Rattle.c_syntax.specs.Tokens.{Is, IsInfix, IsAssignment, multiplies, divides, takes_remainder, adds, subtracts, shifts_left, shifts_right, is_less, is_greater, is_at_most, is_at_least, is_equal, is_unequal, ands_bits, xors_bits, ors_bits, ands, ors, code_of_infix}
use Rattle.c_syntax.specs.Tokens.{assigns, assigns_product, assigns_quotient, assigns_remainder, assigns_sum, assigns_difference, assigns_left_shift, assigns_right_shift, assigns_bit_and, assigns_bit_xor, assigns_bit_or}
use Rattle.c_syntax_printing.specs.Ranks.{rank, rank_of_kind, rank_of_code}
use Rattle.c_parser_phrases.specs.Looking.{between}
use Rattle.c_parser_phrases.specs.Standing.{IsAt}

-- a token with an operator's rank is a punctuator
pub punct : (k : TokenKind) → 1 ≤ rank_of_kind k → rank_of_kind k ≤ 99 → (code : ℕ) × (k ≡ Punct code) × (rank_of_kind k ≡ rank_of_code code)
unfolding rank_of_kind
punct (Punct code) l h = (code, refl, refl)
punct k l h = absurd (omega (arith, l, h))

pub punct_rank : {code : ℕ} (k : TokenKind) → k ≡ Punct code → rank_of_kind k ≡ rank_of_code code
unfolding rank_of_kind
punct_rank k e = ap rank_of_kind e

-- the punctuator stands first
pub stood : (code : ℕ) (i : List Token) → IsAt code i → (t : Token) × (j : List Token) × (i ≡ t ∷ j) × Is code t
stood code [] h = absurd h
stood code (t ∷ j) h = (t, j, refl, h)

-- what a punctuator of a rank is

code_question : (code : ℕ) → rank_of_code code ≡ 12 → code ≡ QUESTION
code_question (suc (suc (suc (suc (suc (suc (suc (suc (suc (suc (suc (suc (suc (suc (suc (suc (suc (suc (suc (suc (suc (suc (suc (suc (suc (suc (suc (suc (suc (suc (suc (suc (suc (suc (suc (suc (suc (suc (suc (suc (suc (suc (suc (suc (suc n))))))))))))))))))))))))))))))))))))))))))))) r = omega (arith, r)
code_question code r = omega (arith, r)

code_comma : (code : ℕ) → rank_of_code code ≡ 14 → code ≡ COMMA
code_comma (suc (suc (suc (suc (suc (suc (suc (suc (suc (suc (suc (suc (suc (suc (suc (suc (suc (suc (suc (suc (suc (suc (suc (suc (suc (suc (suc (suc (suc (suc (suc (suc (suc (suc (suc (suc (suc (suc (suc (suc (suc (suc (suc (suc (suc n))))))))))))))))))))))))))))))))))))))))))))) r = omega (arith, r)
code_comma code r = omega (arith, r)

code_assigned : (code : ℕ) → rank_of_code code ≡ 13 → IsAssignment code
code_assigned (suc (suc (suc (suc (suc (suc (suc (suc (suc (suc (suc (suc (suc (suc (suc (suc (suc (suc (suc (suc (suc (suc (suc (suc (suc (suc (suc (suc (suc (suc (suc (suc (suc (suc (suc (suc (suc (suc (suc (suc (suc (suc (suc (suc (suc n))))))))))))))))))))))))))))))))))))))))))))) r = absurd (omega (arith, r))
code_assigned (suc (suc (suc (suc (suc (suc (suc (suc (suc (suc (suc (suc (suc (suc (suc (suc (suc (suc (suc (suc (suc (suc (suc (suc (suc (suc (suc (suc (suc (suc (suc (suc (suc zero))))))))))))))))))))))))))))))))) r = assigns
code_assigned (suc (suc (suc (suc (suc (suc (suc (suc (suc (suc (suc (suc (suc (suc (suc (suc (suc (suc (suc (suc (suc (suc (suc (suc (suc (suc (suc (suc (suc (suc (suc (suc (suc (suc zero)))))))))))))))))))))))))))))))))) r = assigns_product
code_assigned (suc (suc (suc (suc (suc (suc (suc (suc (suc (suc (suc (suc (suc (suc (suc (suc (suc (suc (suc (suc (suc (suc (suc (suc (suc (suc (suc (suc (suc (suc (suc (suc (suc (suc (suc zero))))))))))))))))))))))))))))))))))) r = assigns_quotient
code_assigned (suc (suc (suc (suc (suc (suc (suc (suc (suc (suc (suc (suc (suc (suc (suc (suc (suc (suc (suc (suc (suc (suc (suc (suc (suc (suc (suc (suc (suc (suc (suc (suc (suc (suc (suc (suc zero)))))))))))))))))))))))))))))))))))) r = assigns_remainder
code_assigned (suc (suc (suc (suc (suc (suc (suc (suc (suc (suc (suc (suc (suc (suc (suc (suc (suc (suc (suc (suc (suc (suc (suc (suc (suc (suc (suc (suc (suc (suc (suc (suc (suc (suc (suc (suc (suc zero))))))))))))))))))))))))))))))))))))) r = assigns_sum
code_assigned (suc (suc (suc (suc (suc (suc (suc (suc (suc (suc (suc (suc (suc (suc (suc (suc (suc (suc (suc (suc (suc (suc (suc (suc (suc (suc (suc (suc (suc (suc (suc (suc (suc (suc (suc (suc (suc (suc zero)))))))))))))))))))))))))))))))))))))) r = assigns_difference
code_assigned (suc (suc (suc (suc (suc (suc (suc (suc (suc (suc (suc (suc (suc (suc (suc (suc (suc (suc (suc (suc (suc (suc (suc (suc (suc (suc (suc (suc (suc (suc (suc (suc (suc (suc (suc (suc (suc (suc (suc zero))))))))))))))))))))))))))))))))))))))) r = assigns_left_shift
code_assigned (suc (suc (suc (suc (suc (suc (suc (suc (suc (suc (suc (suc (suc (suc (suc (suc (suc (suc (suc (suc (suc (suc (suc (suc (suc (suc (suc (suc (suc (suc (suc (suc (suc (suc (suc (suc (suc (suc (suc (suc zero)))))))))))))))))))))))))))))))))))))))) r = assigns_right_shift
code_assigned (suc (suc (suc (suc (suc (suc (suc (suc (suc (suc (suc (suc (suc (suc (suc (suc (suc (suc (suc (suc (suc (suc (suc (suc (suc (suc (suc (suc (suc (suc (suc (suc (suc (suc (suc (suc (suc (suc (suc (suc (suc zero))))))))))))))))))))))))))))))))))))))))) r = assigns_bit_and
code_assigned (suc (suc (suc (suc (suc (suc (suc (suc (suc (suc (suc (suc (suc (suc (suc (suc (suc (suc (suc (suc (suc (suc (suc (suc (suc (suc (suc (suc (suc (suc (suc (suc (suc (suc (suc (suc (suc (suc (suc (suc (suc (suc zero)))))))))))))))))))))))))))))))))))))))))) r = assigns_bit_xor
code_assigned (suc (suc (suc (suc (suc (suc (suc (suc (suc (suc (suc (suc (suc (suc (suc (suc (suc (suc (suc (suc (suc (suc (suc (suc (suc (suc (suc (suc (suc (suc (suc (suc (suc (suc (suc (suc (suc (suc (suc (suc (suc (suc (suc zero))))))))))))))))))))))))))))))))))))))))))) r = assigns_bit_or
code_assigned code r = absurd (omega (arith, r))

at_level : {code : ℕ} (m n : ℕ) → IsInfix (between code) m → code_of_infix (between code) ≡ code → m ≡ n → IsInfix (between code) n × (code_of_infix (between code) ≡ code)
at_level {code} m n h q e = (subst (λ x. IsInfix (between code) x) e h, q)

code_infix : (code n : ℕ) → rank_of_code code ≡ suc n → 1 ≤ n → n ≤ 10 → IsInfix (between code) n × (code_of_infix (between code) ≡ code)
code_infix (suc (suc (suc (suc (suc (suc (suc (suc (suc (suc (suc (suc (suc (suc (suc (suc (suc (suc (suc (suc (suc (suc (suc (suc (suc (suc (suc (suc (suc (suc (suc (suc (suc (suc (suc (suc (suc (suc (suc (suc (suc (suc (suc (suc (suc k))))))))))))))))))))))))))))))))))))))))))))) n r l h = absurd (omega (arith, r, h))
code_infix (suc (suc (suc (suc (suc (suc (suc (suc (suc (suc zero)))))))))) n r l h = at_level {code = 10} 6 n ands_bits refl (omega (arith, r))
code_infix (suc (suc (suc (suc (suc (suc (suc (suc (suc (suc (suc zero))))))))))) n r l h = at_level {code = 11} 1 n multiplies refl (omega (arith, r))
code_infix (suc (suc (suc (suc (suc (suc (suc (suc (suc (suc (suc (suc zero)))))))))))) n r l h = at_level {code = 12} 2 n adds refl (omega (arith, r))
code_infix (suc (suc (suc (suc (suc (suc (suc (suc (suc (suc (suc (suc (suc zero))))))))))))) n r l h = at_level {code = 13} 2 n subtracts refl (omega (arith, r))
code_infix (suc (suc (suc (suc (suc (suc (suc (suc (suc (suc (suc (suc (suc (suc (suc (suc zero)))))))))))))))) n r l h = at_level {code = 16} 1 n divides refl (omega (arith, r))
code_infix (suc (suc (suc (suc (suc (suc (suc (suc (suc (suc (suc (suc (suc (suc (suc (suc (suc zero))))))))))))))))) n r l h = at_level {code = 17} 1 n takes_remainder refl (omega (arith, r))
code_infix (suc (suc (suc (suc (suc (suc (suc (suc (suc (suc (suc (suc (suc (suc (suc (suc (suc (suc zero)))))))))))))))))) n r l h = at_level {code = 18} 3 n shifts_left refl (omega (arith, r))
code_infix (suc (suc (suc (suc (suc (suc (suc (suc (suc (suc (suc (suc (suc (suc (suc (suc (suc (suc (suc zero))))))))))))))))))) n r l h = at_level {code = 19} 3 n shifts_right refl (omega (arith, r))
code_infix (suc (suc (suc (suc (suc (suc (suc (suc (suc (suc (suc (suc (suc (suc (suc (suc (suc (suc (suc (suc zero)))))))))))))))))))) n r l h = at_level {code = 20} 4 n is_less refl (omega (arith, r))
code_infix (suc (suc (suc (suc (suc (suc (suc (suc (suc (suc (suc (suc (suc (suc (suc (suc (suc (suc (suc (suc (suc zero))))))))))))))))))))) n r l h = at_level {code = 21} 4 n is_greater refl (omega (arith, r))
code_infix (suc (suc (suc (suc (suc (suc (suc (suc (suc (suc (suc (suc (suc (suc (suc (suc (suc (suc (suc (suc (suc (suc zero)))))))))))))))))))))) n r l h = at_level {code = 22} 4 n is_at_most refl (omega (arith, r))
code_infix (suc (suc (suc (suc (suc (suc (suc (suc (suc (suc (suc (suc (suc (suc (suc (suc (suc (suc (suc (suc (suc (suc (suc zero))))))))))))))))))))))) n r l h = at_level {code = 23} 4 n is_at_least refl (omega (arith, r))
code_infix (suc (suc (suc (suc (suc (suc (suc (suc (suc (suc (suc (suc (suc (suc (suc (suc (suc (suc (suc (suc (suc (suc (suc (suc zero)))))))))))))))))))))))) n r l h = at_level {code = 24} 5 n is_equal refl (omega (arith, r))
code_infix (suc (suc (suc (suc (suc (suc (suc (suc (suc (suc (suc (suc (suc (suc (suc (suc (suc (suc (suc (suc (suc (suc (suc (suc (suc zero))))))))))))))))))))))))) n r l h = at_level {code = 25} 5 n is_unequal refl (omega (arith, r))
code_infix (suc (suc (suc (suc (suc (suc (suc (suc (suc (suc (suc (suc (suc (suc (suc (suc (suc (suc (suc (suc (suc (suc (suc (suc (suc (suc zero)))))))))))))))))))))))))) n r l h = at_level {code = 26} 7 n xors_bits refl (omega (arith, r))
code_infix (suc (suc (suc (suc (suc (suc (suc (suc (suc (suc (suc (suc (suc (suc (suc (suc (suc (suc (suc (suc (suc (suc (suc (suc (suc (suc (suc zero))))))))))))))))))))))))))) n r l h = at_level {code = 27} 8 n ors_bits refl (omega (arith, r))
code_infix (suc (suc (suc (suc (suc (suc (suc (suc (suc (suc (suc (suc (suc (suc (suc (suc (suc (suc (suc (suc (suc (suc (suc (suc (suc (suc (suc (suc zero)))))))))))))))))))))))))))) n r l h = at_level {code = 28} 9 n ands refl (omega (arith, r))
code_infix (suc (suc (suc (suc (suc (suc (suc (suc (suc (suc (suc (suc (suc (suc (suc (suc (suc (suc (suc (suc (suc (suc (suc (suc (suc (suc (suc (suc (suc zero))))))))))))))))))))))))))))) n r l h = at_level {code = 29} 10 n ors refl (omega (arith, r))
code_infix code n r l h = absurd (omega (arith, r, l, h))

-- a punctuator of the rank 13 is an assignment operator
pub assignment_of : (code : ℕ) (k : TokenKind) → k ≡ Punct code → rank_of_kind k ≡ 13 → IsAssignment code
assignment_of code k e r = code_assigned code (sym (punct_rank k e) ∙ r)

-- a punctuator of the rank n + 1 is an operator of the level n
pub infix_at : (code n : ℕ) (t : Token) → t.kind ≡ Punct code → rank_of_kind t.kind ≡ suc n → 1 ≤ n → n ≤ 10 → Is (code_of_infix (between code)) t × IsInfix (between code) n
infix_at code n t e r l h =
    let w = code_infix code n (sym (punct_rank t.kind e) ∙ r) l h in
    (record { kind = e ∙ ap Punct (sym w.1) }, w.0)

at_mark : (code : ℕ) (t : Token) → t.kind ≡ Punct code → rank_of_code code ≡ 1 → (Is LEFT_BRACKET t → ⊥) → (Is LEFT_PARENTHESIS t → ⊥) → (Is DOT t → ⊥) → (Is ARROW t → ⊥) → (Is INCREMENT t → ⊥) → (Is DECREMENT t → ⊥) → ⊥
at_mark (suc (suc (suc (suc (suc (suc (suc (suc (suc (suc (suc (suc (suc (suc (suc (suc (suc (suc (suc (suc (suc (suc (suc (suc (suc (suc (suc (suc (suc (suc (suc (suc (suc (suc (suc (suc (suc (suc (suc (suc (suc (suc (suc (suc (suc n))))))))))))))))))))))))))))))))))))))))))))) t e r a b c d f g = omega (arith, r)
at_mark zero t e r a b c d f g = a (record { kind = e })
at_mark (suc (suc zero)) t e r a b c d f g = b (record { kind = e })
at_mark (suc (suc (suc (suc (suc (suc zero)))))) t e r a b c d f g = c (record { kind = e })
at_mark (suc (suc (suc (suc (suc (suc (suc zero))))))) t e r a b c d f g = d (record { kind = e })
at_mark (suc (suc (suc (suc (suc (suc (suc (suc zero)))))))) t e r a b c d f g = f (record { kind = e })
at_mark (suc (suc (suc (suc (suc (suc (suc (suc (suc zero))))))))) t e r a b c d f g = g (record { kind = e })
at_mark code t e r a b c d f g = omega (arith, r)

-- what is no punctuator of the rank has a higher one
kind_left : (n : ℕ) (k : TokenKind) → 1 ≤ n → n ≤ 99 → n ≤ rank_of_kind k → ((code : ℕ) → k ≡ Punct code → rank_of_code code ≡ n → ⊥) → suc n ≤ rank_of_kind k
kind_left n k a b l f = go (cases_lt n (rank_of_kind k))
  where
    go : (n < rank_of_kind k) ⊎ (rank_of_kind k ≤ n) → suc n ≤ rank_of_kind k
    go (inl h) = omega (arith, h)
    go (inr h) = let p = punct k (omega (arith, a, l)) (omega (arith, b, h)) in absurd (f p.0 p.1 (omega (arith, p.2, h, l)))

-- what no operand goes on with
pub mark_left : (j : List Token) → (IsAt LEFT_BRACKET j → ⊥) → (IsAt LEFT_PARENTHESIS j → ⊥) → (IsAt DOT j → ⊥) → (IsAt ARROW j → ⊥) → (IsAt INCREMENT j → ⊥) → (IsAt DECREMENT j → ⊥) → 1 ≤ rank j → 2 ≤ rank j
mark_left [] a b c d f g l = omega arith
mark_left (t ∷ j) a b c d f g l = kind_left 1 t.kind (omega arith) (omega arith) l (λ code e r. at_mark code t e r a b c d f g)

-- what no test goes on with
pub question_left : (j : List Token) → 12 ≤ rank j → (IsAt QUESTION j → ⊥) → 13 ≤ rank j
question_left [] l f = omega arith
question_left (t ∷ j) l f = kind_left 12 t.kind (omega arith) (omega arith) l (λ code e r. f (record { kind = e ∙ ap Punct (code_question code r) }))

-- what no assignment goes on with
pub comma_left : (j : List Token) → 14 ≤ rank j → (IsAt COMMA j → ⊥) → 15 ≤ rank j
comma_left [] l f = omega arith
comma_left (t ∷ j) l f = kind_left 14 t.kind (omega arith) (omega arith) l (λ code e r. f (record { kind = e ∙ ap Punct (code_comma code r) }))

-- a Bool that is false
pub not_there : (b : Bool) {P : Type 0} → b ≡ false → IsTrue b ↔ P → P → ⊥
not_there b e h p = let t = h.1 p in cc

-- the rank where no token is left, and where a punctuator stands
pub empty_rank : (i : List Token) → length i ≡ 0 → rank i ≡ 100
empty_rank [] h = refl
empty_rank (t ∷ i) h = absurd (omega (arith, h))

pub rank_at : {code : ℕ} {t : Token} {i j : List Token} → i ≡ t ∷ j → t.kind ≡ Punct code → rank i ≡ rank_of_code code
rank_at {t = t} q e = ap rank q ∙ punct_rank t.kind e

-- no punctuator continues strings
pub code_ranks : (code : ℕ) → 1 ≤ rank_of_code code
code_ranks (suc (suc (suc (suc (suc (suc (suc (suc (suc (suc (suc (suc (suc (suc (suc (suc (suc (suc (suc (suc (suc (suc (suc (suc (suc (suc (suc (suc (suc (suc (suc (suc (suc (suc (suc (suc (suc (suc (suc (suc (suc (suc (suc (suc (suc n))))))))))))))))))))))))))))))))))))))))))))) = omega arith
code_ranks code = omega arith
