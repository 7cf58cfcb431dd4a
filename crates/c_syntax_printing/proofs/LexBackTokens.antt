-- The printed text of a kind is a whole token before a blank.
use Rattle.std.proofs.Common.{◌≡◌, ◌≢◌, ◌⊎◌, ◌≤◌, ℕ, List, [], ◌∷◌, ◌++◌, length, All, refl, ap, sym, ◌∙◌, subst, inl, inr, ⊎_elim, arith}
use Rattle.c_lexer.specs.Name.{IsName}
use Rattle.c_lexer.specs.declared.token.TokenKind.{TokenKind}
use Rattle.c_lexer.specs.declared.token.TokenKind.TheVariants.{Name, Keyword, Int, Char, Str, Punct}
use Rattle.c_lexer.specs.Kinds.{Spells, IsLexeme, IsKind}
use Rattle.c_lexer.specs.TokenSpelling.{IsToken}
use Rattle.c_syntax.specs.Text.{kind_text}
use Rattle.c_syntax_printing.proofs.LexBackWords.{IsEnd, IsSolid, IsNoSecond, Bare, solid_short, word_solid, number_solid, punctuator_solid, keyword_found, punctuator_found, keyword_bare, punctuator_bare, letter_bare}
use Rattle.c_syntax_printing.proofs.LexBackQuoted.{IsMark, Quoted, character_quoted, string_quoted, quoted_short}
use Rattle.c_syntax_printing.proofs.LexBackElements.{char_spelled, string_spelled}
use Rattle.c_syntax_printing.proofs.LexBackNumbers.{constant_spelled, constant_bare}

-- what is taken whole holds no blank, or is a literal
abbrev IsLiteral : List ℕ → Type 0
IsLiteral x = (q : ℕ) × IsMark q × Quoted q x

lexeme_form : (x : List ℕ) → IsLexeme x → All IsSolid x ⊎ IsLiteral x
lexeme_form x (inl h) = inl (word_solid x h)
lexeme_form x (inr (inl h)) = inl (number_solid x h)
lexeme_form x (inr (inr (inl (v, h)))) = inr (39, inl refl, character_quoted x v h)
lexeme_form x (inr (inr (inr (inl (vs, h))))) = inr (34, inr refl, string_quoted x vs h)
lexeme_form x (inr (inr (inr (inr h)))) = inl (punctuator_solid x h)

-- a second byte of a comment
abbrev IsSecond : ℕ → Type 0
IsSecond c = (c ≡ 47) ⊎ (c ≡ 42)

end_no_second : (b : ℕ) → IsEnd b → IsSecond b → ⊥
end_no_second b (inl e) (inl f) = omega arith
end_no_second b a u = omega arith

no_second_here : (c : ℕ) → (c ≢ 47) × (c ≢ 42) → IsSecond c → ⊥
no_second_here c h (inl e) = h.0 e
no_second_here c h (inr e) = h.1 e

no_second_after : (later rest r : List ℕ) (b c : ℕ) → IsEnd b → IsNoSecond later → later ++ b ∷ rest ≡ c ∷ r → IsSecond c → ⊥
no_second_after [] rest r b c end apart e second =
    let same : b ≡ c = cc in
    end_no_second b end (subst IsSecond (sym same) second)
no_second_after (d ∷ later) rest r b c end apart e second =
    let same : d ≡ c = cc in
    no_second_here d (apart d later refl) (subst IsSecond (sym same) second)

first_same : (first c : ℕ) (later w rest r : List ℕ) → w ≡ first ∷ later → w ++ rest ≡ c ∷ r → first ≡ c
first_same first c later w rest r is e = cc

later_same : (first c : ℕ) (later w rest r : List ℕ) → w ≡ first ∷ later → w ++ rest ≡ c ∷ r → later ++ rest ≡ r
later_same first c later w rest r is e = cc

-- no comment begins there
no_comment : (first : ℕ) (later w rest r : List ℕ) (b c : ℕ) → w ≡ first ∷ later → (first ≢ 47) ⊎ IsNoSecond later → IsEnd b → IsSecond c → w ++ b ∷ rest ≡ 47 ∷ c ∷ r → ⊥
no_comment first later w rest r b c is (inl apart) end second e = apart (first_same first 47 later w (b ∷ rest) (c ∷ r) is e)
no_comment first later w rest r b c is (inr apart) end second e =
    no_second_after later rest r b c end apart (later_same first 47 later w (b ∷ rest) (c ∷ r) is e) second

-- a literal begins with its quote
bare_apart : (w rest x y : List ℕ) → Bare w → IsLiteral x → w ++ rest ≡ x ++ y → ⊥
bare_apart w rest x y bare (q, mark, quoted) e =
    let begins : x ++ y ≡ q ∷ (quoted.inner ++ y) = ap (λ (v : List ℕ). v ++ y) quoted.is in
    let same : bare.first ≡ q = first_same bare.first q bare.later w rest (quoted.inner ++ y) bare.is (e ∙ begins) in
    ⊎_elim (λ one. bare.single (same ∙ one)) (λ other. bare.double (same ∙ other)) mark

bare_longest : (w rest x y : List ℕ) (b : ℕ) → Bare w → IsEnd b → w ++ b ∷ rest ≡ x ++ y → IsLexeme x → length x ≤ length w
bare_longest w rest x y b bare end e lexeme =
    ⊎_elim (λ solid. solid_short x w y rest b end solid e) (λ literal. absurd (bare_apart w (b ∷ rest) x y bare literal e)) (lexeme_form x lexeme)

quoted_same : (q : ℕ) (w rest x y : List ℕ) → IsMark q → Quoted q w → IsLiteral x → w ++ rest ≡ x ++ y → length x ≤ length w
quoted_same q w rest x y mark quoted (other, _, there) e =
    let begins : x ++ y ≡ other ∷ (there.inner ++ y) = ap (λ (v : List ℕ). v ++ y) there.is in
    let same : q ≡ other = first_same q other quoted.inner w rest (there.inner ++ y) quoted.is (e ∙ begins) in
    quoted_short q mark w x rest y quoted (subst (λ (n : ℕ). Quoted n x) (sym same) there) e

quoted_longest : (q : ℕ) (w rest x y : List ℕ) (b : ℕ) → IsMark q → Quoted q w → IsEnd b → w ++ b ∷ rest ≡ x ++ y → IsLexeme x → length x ≤ length w
quoted_longest q w rest x y b mark quoted end e lexeme =
    ⊎_elim (λ solid. solid_short x w y rest b end solid e) (λ literal. quoted_same q w (b ∷ rest) x y mark quoted literal e) (lexeme_form x lexeme)

-- a text of either form is a token
bare_token : (kind : TokenKind) (w rest : List ℕ) (b : ℕ) → Spells kind w → Bare w → IsEnd b → IsToken kind w (b ∷ rest)
bare_token kind w rest b spells bare end = record {
  spells = spells;
  longest = λ x y e lexeme. bare_longest w rest x y b bare end e lexeme;
  no_line_comment = λ (r, e). no_comment bare.first bare.later w rest r b 47 bare.is bare.apart end (inl refl) e;
  no_block_comment = λ (r, e). no_comment bare.first bare.later w rest r b 42 bare.is bare.apart end (inr refl) e;
}

mark_apart : (q : ℕ) → IsMark q → q ≢ 47
mark_apart q (inl e) f = omega arith
mark_apart q (inr e) f = omega arith

quoted_token : (q : ℕ) (kind : TokenKind) (w rest : List ℕ) (b : ℕ) → IsMark q → Spells kind w → Quoted q w → IsEnd b → IsToken kind w (b ∷ rest)
quoted_token q kind w rest b mark spells quoted end = record {
  spells = spells;
  longest = λ x y e lexeme. quoted_longest q w rest x y b mark quoted end e lexeme;
  no_line_comment = λ (r, e). no_comment q quoted.inner w rest r b 47 quoted.is (inl (mark_apart q mark)) end (inl refl) e;
  no_block_comment = λ (r, e). no_comment q quoted.inner w rest r b 42 quoted.is (inl (mark_apart q mark)) end (inr refl) e;
}

name_bare : (w : List ℕ) → IsName w → Bare w
name_bare [] name = absurd (omega (arith, name.some))
name_bare (b ∷ w) name = letter_bare b w (name.begins b w refl)

-- and is a whole token before a blank
pub printed_token : (kind : TokenKind) → IsKind kind → (b : ℕ) (rest : List ℕ) → IsEnd b → IsToken kind (kind_text kind) (b ∷ rest)
printed_token (Name name) h b rest end = bare_token (Name name) name rest b (refl, h) (name_bare name h) end
printed_token (Keyword k) h b rest end =
    bare_token (Keyword k) (kind_text (Keyword k)) rest b (keyword_found k h) (keyword_bare k (kind_text (Keyword k)) (keyword_found k h)) end
printed_token (Int value unsigned) h b rest end =
    bare_token (Int value unsigned) (kind_text (Int value unsigned)) rest b (constant_spelled value unsigned h) (constant_bare value unsigned h) end
printed_token (Char c) h b rest end =
    let spelled = char_spelled c h in
    quoted_token 39 (Char c) (kind_text (Char c)) rest b (inl refl) spelled (character_quoted (kind_text (Char c)) spelled.0 spelled.1) end
printed_token (Str bytes) h b rest end =
    let spelled = string_spelled bytes h in
    quoted_token 34 (Str bytes) (kind_text (Str bytes)) rest b (inr refl) spelled (string_quoted (kind_text (Str bytes)) bytes spelled.0) end
printed_token (Punct p) h b rest end =
    bare_token (Punct p) (kind_text (Punct p)) rest b (punctuator_found p h) (punctuator_bare p (kind_text (Punct p)) (punctuator_found p h)) end
