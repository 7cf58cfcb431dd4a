-- What stands first, at the ends of the functions that look for it.
use Rattle.std.proofs.Common.{◌≡◌, ◌≤◌, ◌<◌, inl, inr, ℕ, Bool, true, false, List, [], ◌∷◌, length, refl, sym, ap, ◌∙◌, subst, arith}
use Rattle.std.proofs.Common.{◌⊎◌}
use Rattle.c_lexer.specs.declared.token.Token.{Token}
use Rattle.c_lexer.specs.declared.token.TokenKind.TheVariants.{Punct}
use Rattle.c_lexer.specs.declared.punctuator.TheConstants.{LEFT_BRACKET, LEFT_PARENTHESIS}
use Rattle.c_syntax_printing.proofs.Ranks.{heads}
use Rattle.c_syntax_printing.specs.Starts.{start}
use Rattle.c_parser_phrases.specs.declared.form.Form.{Form}
use Rattle.c_parser_phrases.specs.declared.form.Form.TheVariants.{Named, Abstract}
use Rattle.c_parser_phrases.specs.declared.error.PhraseError.TheVariants.{Syntax, Nesting}
use Rattle.c_parser_phrases.specs.Standing.{IsAt}
use Rattle.c_parser_phrases.specs.Looking.{OpensInside, IsDeepOrWrong, LacksPair, LacksDeclaratorPair}

punct_same : {a b : ℕ} → Punct a ≡ Punct b → a ≡ b
punct_same q = cc

-- no unary operator

pub unary_empty : (i : List Token) → length i ≡ 0 → (code : ℕ) → 10 ≤ code → code ≤ 15 → IsAt code i → ⊥
unary_empty [] q code l u h = h
unary_empty (t ∷ i) q code l u h = omega (arith, q)

code_at : {code : ℕ} {t : Token} {i j : List Token} → i ≡ t ∷ j → IsAt code i → t.kind ≡ Punct code
code_at {code} q h = let P : List Token → Type 0 = λ z. IsAt code z in let w = subst P q h in w.kind

pub unary_other : {t : Token} {i j : List Token} → i ≡ t ∷ j → ((code : ℕ) → t.kind ≡ Punct code → ⊥) → (code : ℕ) → 10 ≤ code → code ≤ 15 → IsAt code i → ⊥
unary_other q f code l u h = f code (code_at q h)

pub unary_outside : {other : ℕ} {t : Token} {i j : List Token} → i ≡ t ∷ j → t.kind ≡ Punct other → (10 ≤ other → other ≤ 15 → ⊥) → (code : ℕ) → 10 ≤ code → code ≤ 15 → IsAt code i → ⊥
unary_outside q k f code l u h = let e = punct_same (sym k ∙ code_at q h) in f (omega (arith, l, e)) (omega (arith, u, e))

-- a parenthesis that opens no parameters

pub opens_none : (form : Form) {i : List Token} → (IsAt LEFT_PARENTHESIS i → ⊥) → OpensInside form false i
opens_none form f = inl f

pub opens_named : (form : Form) (i : List Token) → IsAt LEFT_PARENTHESIS i → form ≡ Named → OpensInside form true i
opens_named form [] h e = absurd h
opens_named form (t ∷ j) h e = (t, j, refl, h, inr e)

pub opens_other : (form : Form) {t : Token} {i j : List Token} (b : Bool) → IsAt LEFT_PARENTHESIS i → (form ≡ Named → ⊥) → i ≡ t ∷ j → (b ≡ true → start j ≤ 6) → (b ≡ false → start j ≤ 6 → ⊥) → OpensInside form b i
opens_other form {t} {j = j} true h n q f g = let P : List Token → Type 0 = λ z. IsAt LEFT_PARENTHESIS z in (t, j, q, subst P q h, inl (f refl))
opens_other form {t} {j = j} false h n q f g = inr (n, λ u k e. let x = (heads (sym q ∙ e)).1 in let w = g refl in omega (arith, ap start x, w))

-- no part of a declarator

pub part_wrong : {deepest : ℕ} {i : List Token} → (IsAt LEFT_BRACKET i → ⊥) → (IsAt LEFT_PARENTHESIS i → ⊥) → IsDeepOrWrong deepest Syntax i
part_wrong f g = record { wrong = λ q. (f, g); deep = λ at q. absurd (let p : Syntax ≡ Nesting at = q in cc) }

pub nesting_same : {a b : ℕ} → Nesting a ≡ Nesting b → a ≡ b
nesting_same q = cc

pub part_deep : {deepest : ℕ} {i : List Token} → IsAt LEFT_BRACKET i ⊎ IsAt LEFT_PARENTHESIS i → IsDeepOrWrong deepest (Nesting deepest) i
part_deep {deepest} h = record { wrong = λ q. absurd (let p : Nesting deepest ≡ Syntax = q in cc); deep = λ at q. (sym (nesting_same q), h) }

-- no pair is left

pub pair_none : {at : ℕ} {i : List Token} → start i ≡ 0 → LacksPair at Syntax i
pair_none e = record { wrong = λ q l. absurd (omega (arith, e, l)); deep = λ at q. absurd (let p : Syntax ≡ Nesting at = q in cc) }

pub pair_other : {at : ℕ} {i : List Token} → 5 < start i → LacksPair at Syntax i
pair_other e = record { wrong = λ q l. omega (arith, e); deep = λ at q. absurd (let p : Syntax ≡ Nesting at = q in cc) }

pub pair_begins : {at : ℕ} {i : List Token} → (start i ≡ 0 → ⊥) → start i ≤ 5 → LacksPair at (Nesting at) i
pair_begins {at} f u = record { wrong = λ q. absurd (let p : Nesting at ≡ Syntax = q in cc); deep = λ it q. (sym (nesting_same q), omega (arith, f), u) }

pub declarator_none : {form : Form} {at : ℕ} {i : List Token} → start i ≤ 1 → LacksDeclaratorPair form at Syntax i
declarator_none l = record { wrong = λ q. inl l; deep = λ at q. absurd (let p : Syntax ≡ Nesting at = q in cc) }

pub declarator_constant : {form : Form} {at : ℕ} {i : List Token} → start i ≡ 3 → LacksDeclaratorPair form at Syntax i
declarator_constant e = record { wrong = λ q. inr (inl e); deep = λ at q. absurd (let p : Syntax ≡ Nesting at = q in cc) }

pub declarator_name : {form : Form} {at : ℕ} {i : List Token} → start i ≡ 5 → form ≡ Abstract → LacksDeclaratorPair form at Syntax i
declarator_name e a = record { wrong = λ q. inr (inr (e, a)); deep = λ at q. absurd (let p : Syntax ≡ Nesting at = q in cc) }

pub declarator_begins : {form : Form} {at : ℕ} {i : List Token} → 1 < start i → (start i ≡ 3 → ⊥) → (start i ≡ 5 → form ≡ Abstract → ⊥) → LacksDeclaratorPair form at (Nesting at) i
declarator_begins {at = at} l f g = record { wrong = λ q. absurd (let p : Nesting at ≡ Syntax = q in cc); deep = λ it q. (sym (nesting_same q), record { some = omega (arith, l); no_constant = f; no_name = g }) }
