-- Some expression begins with each token that can begin one.
use Rattle.std.proofs.Common.{◌≡◌, ◌≤◌, ℕ, zero, suc, List, ◌∷◌, refl, subst, arith}
use Rattle.c_lexer.specs.declared.token.Token.{Token}
use Rattle.c_lexer.specs.declared.token.TokenKind.{TokenKind}
use Rattle.c_lexer.specs.declared.token.TokenKind.TheVariants.{Name, Keyword, Int, Char, Str, Punct}
use Rattle.c_lexer.specs.declared.punctuator.TheConstants.{RIGHT_PARENTHESIS}
use Rattle.c_lexer.specs.declared.keyword.TheConstants.{INT}
use Rattle.c_syntax.specs.Tree.{Expr, pre_increment, pre_decrement, sizeof}
use Rattle.c_syntax.specs.Tokens.{IsUnary, takes_address, indirects, keeps_sign, changes_sign, complements, negates}
use Rattle.c_syntax.specs.Specifiers.{no_const, is_int}
use Rattle.c_syntax.specs.Grammar.{primary_level, expression_level}
use Rattle.c_syntax.specs.Grammar.{Reads, is_name, is_char, are_strings, last_string, with_suffixes, no_suffix, no_prefix, a_prefix, a_unary, no_cast, a_cast, a_type, a_direct, no_core, no_more}
use Rattle.c_syntax.specs.Grammar.Reads.{is_int as int_stands}
use Rattle.c_syntax_printing.specs.Starts.{start_of_code, start_of_word, start_of_kind}
use Rattle.c_syntax.proofs.BackTokens.{as_expression}
use Rattle.c_syntax_printing.specs.Opens.{Filled}
use Rattle.c_syntax_printing.proofs.Fills.{name_unary, name_token, punctuator, word}

pub unary_of : (code : ℕ) → 10 ≤ code → code ≤ 15 → IsUnary code
unary_of (suc (suc (suc (suc (suc (suc (suc (suc (suc (suc zero)))))))))) l g = takes_address
unary_of (suc (suc (suc (suc (suc (suc (suc (suc (suc (suc (suc zero))))))))))) l g = indirects
unary_of (suc (suc (suc (suc (suc (suc (suc (suc (suc (suc (suc (suc zero)))))))))))) l g = keeps_sign
unary_of (suc (suc (suc (suc (suc (suc (suc (suc (suc (suc (suc (suc (suc zero))))))))))))) l g = changes_sign
unary_of (suc (suc (suc (suc (suc (suc (suc (suc (suc (suc (suc (suc (suc (suc zero)))))))))))))) l g = complements
unary_of (suc (suc (suc (suc (suc (suc (suc (suc (suc (suc (suc (suc (suc (suc (suc zero))))))))))))))) l g = negates
unary_of (suc (suc (suc (suc (suc (suc (suc (suc (suc (suc (suc (suc (suc (suc (suc (suc n)))))))))))))))) l g = absurd (omega (arith, g))
unary_of code l g = absurd (omega (arith, l))

opening_code : (code : ℕ) → 1 ≤ start_of_code code → start_of_code code ≤ 5 → (code ≡ 2 → ⊥) → (8 ≤ code) × (code ≤ 15)
opening_code (suc (suc (suc (suc (suc (suc (suc (suc (suc (suc (suc (suc (suc (suc (suc (suc n)))))))))))))))) l g f = absurd (omega (arith, l))
opening_code (suc (suc zero)) l g f = absurd (f refl)
opening_code code l g f = (omega (arith, l, g), omega (arith, l, g))

opening_word : (code : ℕ) → 1 ≤ start_of_word code → start_of_word code ≤ 5 → code ≡ 15
opening_word (suc (suc (suc (suc (suc (suc (suc (suc (suc (suc (suc (suc (suc (suc (suc (suc (suc (suc (suc (suc (suc n))))))))))))))))))))) l g = absurd (omega (arith, l, g))
opening_word (suc (suc (suc (suc (suc (suc (suc (suc (suc (suc (suc (suc (suc (suc (suc zero))))))))))))))) l g = refl
opening_word code l g = absurd (omega (arith, l, g))

primary_whole : {d : ℕ} {e : Expr} {i j : List Token} → Reads d primary_level e i j → Reads d expression_level e i j
primary_whole r = as_expression (no_cast (no_prefix (with_suffixes refl r no_suffix)))

abbrev Begun : ℕ → Token → List Token → List Token → Type 0
Begun d u k j = (e : Expr) × Reads d expression_level e (u ∷ k) j

by_unary : {d : ℕ} (u : Token) (code : ℕ) → u.kind ≡ Punct code → 8 ≤ code → code ≤ 15 → (m : List Token) → Filled (Begun d u) m
by_unary u (suc (suc (suc (suc (suc (suc (suc (suc zero)))))))) q l g m =
    record { tokens = name_token 0 ∷ m; reads = (_, as_expression (no_cast (a_prefix {p = pre_increment} (record { kind = q }) (name_unary 0)))) }
by_unary u (suc (suc (suc (suc (suc (suc (suc (suc (suc zero))))))))) q l g m =
    record { tokens = name_token 0 ∷ m; reads = (_, as_expression (no_cast (a_prefix {p = pre_decrement} (record { kind = q }) (name_unary 0)))) }
by_unary u (suc (suc (suc (suc (suc (suc (suc (suc (suc (suc n)))))))))) q l g m =
    record { tokens = name_token 0 ∷ m; reads = (_, as_expression (no_cast (a_unary (record { kind = q }) (unary_of _ (omega arith) g) (no_cast (name_unary 0))))) }
by_unary u code q l g m = absurd (omega (arith, l))

by_code : {d : ℕ} (u : Token) (code : ℕ) → u.kind ≡ Punct code → 1 ≤ start_of_code code → start_of_code code ≤ 5 → (m : List Token) → Filled (Begun d u) m
by_code u (suc (suc zero)) q l g m = record {
  tokens = word INT (omega arith) ∷ punctuator RIGHT_PARENTHESIS (omega arith) ∷ name_token 0 ∷ m;
  reads = (_, as_expression (a_cast (record { kind = q }) (a_type refl (is_int no_const (record { kind = refl }) no_const) (a_direct refl no_core no_more) tt) (record { kind = refl }) (no_cast (name_unary 0))));
}
by_code u code q l g m = let v = opening_code code l g (λ e. omega (arith, e)) in by_unary u code q v.0 v.1 m

by_kind : {d : ℕ} (u : Token) (k : TokenKind) → u.kind ≡ k → 1 ≤ start_of_kind k → start_of_kind k ≤ 5 → (m : List Token) → Filled (Begun d u) m
unfolding start_of_kind
by_kind u (Name name) q l g m = record { tokens = m; reads = (_, primary_whole (is_name (record { kind = q }))) }
by_kind u (Int value unsigned) q l g m = record { tokens = m; reads = (_, primary_whole (int_stands (record { kind = q }))) }
by_kind u (Char c) q l g m = record { tokens = m; reads = (_, primary_whole (is_char (record { kind = q }))) }
by_kind u (Str bytes) q l g m = record { tokens = m; reads = (_, primary_whole (are_strings refl (last_string (record { kind = q })))) }
by_kind u (Punct code) q l g m = by_code u code q l g m
by_kind u (Keyword code) q l g m =
    record { tokens = name_token 0 ∷ m; reads = (_, as_expression (no_cast (a_prefix {p = sizeof} (record { kind = subst (λ z. u.kind ≡ Keyword z) (opening_word code l g) q }) (name_unary 0)))) }

-- whatever is to follow
pub expression_begins : {d : ℕ} (u : Token) → 1 ≤ start_of_kind u.kind → start_of_kind u.kind ≤ 5 → (m : List Token) → Filled (λ k j. (e : Expr) × Reads d expression_level e (u ∷ k) j) m
expression_begins u l g m = by_kind u u.kind refl l g m
