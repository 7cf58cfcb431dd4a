-- The printed text of kinds spells tokens of these kinds.
use Rattle.std.proofs.Common.{◌≡◌, ◌≤◌, ◌+◌, ℕ, Bool, true, false, List, [], ◌∷◌, ◌++◌, length, drop, All, refl, ap, sym, ◌∙◌, subst, inl, inr, append_assoc, append-nil, arith}
use Rattle.std.specs.Prelude.{if◌then◌else◌}
use Rattle.std.proofs.lemmas.List.{drop_at, length-append}
use Rattle.std.proofs.lemmas.List.Elements.{All-head, All-tail}
use Rattle.c_lexer.specs.Mode.TheVariants.{Instrumented}
use Rattle.c_lexer.specs.declared.token.TokenKind.{TokenKind}
use Rattle.c_lexer.specs.declared.token.Token.{Token}
use Rattle.c_lexer.specs.Kinds.{IsKind}
use Rattle.c_lexer.specs.TokenSpelling.{IsBlank, IsToken, Stand, SpellsFrom, SpellsTokens}
use Rattle.c_lexer.specs.TokenSpelling.IsWhite.{blank}
use Rattle.c_lexer.specs.TokenSpelling.SpellsFrom.{nothing, white, token}
use Rattle.c_syntax.specs.Text.{kind_text, ends_line, space_after, kinds_text}
use Rattle.c_syntax.proofs.BackTokens.{kinds}
use Rattle.c_syntax_printing.proofs.LexBackWords.{IsEnd}
use Rattle.c_syntax_printing.proofs.LexBackTokens.{printed_token}

-- bytes that stand in a text after a front
pub record Placed (text w rest : List ℕ) (p q : ℕ) : Type 0 where
  pub stand : Stand text w p q
  pub left : drop q text ≡ rest

placed : (front w rest text : List ℕ) (p q : ℕ) → text ≡ front ++ (w ++ rest) → p ≡ length front → q ≡ p + length w → Placed text w rest p q
placed front w rest text p q is at long =
    let here : drop p text ≡ w ++ rest = ap (drop p) is ∙ drop_at front (w ++ rest) p (sym at) in
    let moved : text ≡ (front ++ w) ++ rest = is ∙ sym (append_assoc front w rest) in
    let size : length (front ++ w) ≡ length front + length w = length-append front w in
    let whole : length text ≡ length (front ++ w) + length rest = ap length moved ∙ length-append (front ++ w) rest in
    let left : drop q text ≡ rest = ap (drop q) moved ∙ drop_at (front ++ w) rest q (omega arith) in
    record { stand = record { long = long; are = here ∙ ap (λ (r : List ℕ). w ++ r) (sym left); within = omega arith }; left = left }

end_of : (t : Bool) → IsEnd (if t then 10 else 32)
end_of true = inl refl
end_of false = inr refl

blank_of : (b : ℕ) → IsEnd b → IsBlank b
blank_of b (inl e) = inl (omega arith, omega arith)
blank_of b (inr e) = inr e

-- from the place the text is tokens of the kinds
pub record SpelledFrom (text : List ℕ) (p : ℕ) (ks : List TokenKind) : Type 0 where
  pub tokens : List Token
  pub spelled : SpellsFrom text p (length text) tokens
  pub are : kinds tokens ≡ ks

none_left : (front text : List ℕ) (p : ℕ) → text ≡ front ++ [] → p ≡ length front → SpelledFrom text p []
none_left front text p is at =
    let same : p ≡ length text = at ∙ sym (ap length (is ∙ append-nil front)) in
    record { tokens = []; spelled = subst (λ (r : ℕ). SpellsFrom text p r []) same nothing; are = refl }

-- a token and the blank after it stand before the rest
one_more : (kind : TokenKind) (ks : List TokenKind) (text w rest : List ℕ) (b p q r : ℕ) → IsKind kind → IsEnd b → IsToken kind w (b ∷ rest) → Placed text w (b ∷ rest) p q → Placed text (b ∷ []) rest q r → SpelledFrom text r ks → SpelledFrom text p (kind ∷ ks)
one_more kind ks text w rest b p q r given end whole first second more = record {
  tokens = record { kind = kind; from = p; to = q; given = given } ∷ more.tokens;
  spelled = token first.stand (subst (IsToken kind w) (sym first.left) whole) refl refl (white second.stand (blank (blank_of b end)) more.spelled);
  are = ap (λ (x : List TokenKind). kind ∷ x) more.are;
}

-- the places of a token and of the blank after it
placed_blank : (front w rest text : List ℕ) (b p q : ℕ) → text ≡ front ++ (w ++ b ∷ rest) → p ≡ length front → q ≡ p + length w → Placed text (b ∷ []) rest q (q + 1)
placed_blank front w rest text b p q is at long =
    let moved : text ≡ (front ++ w) ++ (b ∷ rest) = is ∙ sym (append_assoc front w (b ∷ rest)) in
    let size : length (front ++ w) ≡ length front + length w = length-append front w in
    placed (front ++ w) (b ∷ []) rest text q (q + 1) moved (omega arith) refl

-- the front with the token and the blank
longer : (front w rest text : List ℕ) (b : ℕ) → text ≡ front ++ (w ++ b ∷ rest) → text ≡ (front ++ (w ++ b ∷ [])) ++ rest
longer front w rest text b is =
    let inner : (w ++ b ∷ []) ++ rest ≡ w ++ b ∷ rest = append_assoc w (b ∷ []) rest in
    is ∙ ap (λ (x : List ℕ). front ++ x) (sym inner) ∙ sym (append_assoc front (w ++ b ∷ []) rest)

longer_place : (front w : List ℕ) (b p q : ℕ) → p ≡ length front → q ≡ p + length w → q + 1 ≡ length (front ++ (w ++ b ∷ []))
longer_place front w b p q at long =
    let size : length (front ++ (w ++ b ∷ [])) ≡ length front + length (w ++ b ∷ []) = length-append front (w ++ b ∷ []) in
    let size_too : length (w ++ b ∷ []) ≡ length w + 1 = length-append w (b ∷ []) in
    omega arith

spelled_from : (ks : List TokenKind) (front text : List ℕ) (p : ℕ) → All IsKind ks → text ≡ front ++ kinds_text ks → p ≡ length front → SpelledFrom text p ks
spelled_from [] front text p given is at = none_left front text p is at
spelled_from (kind ∷ ks) front text p given is at =
    let w : List ℕ = kind_text kind in
    let b : ℕ = space_after kind in
    let q : ℕ = p + length w in
    let here : IsKind kind = All-head IsKind kind ks given in
    let end : IsEnd b = end_of (ends_line kind) in
    one_more kind ks text w (kinds_text ks) b p q (q + 1) here end (printed_token kind here b (kinds_text ks) end)
    (placed front w (b ∷ kinds_text ks) text p q is at refl)
    (placed_blank front w (kinds_text ks) text b p q is at refl)
    (spelled_from ks (front ++ (w ++ b ∷ [])) text (q + 1) (All-tail IsKind kind ks given) (longer front w (kinds_text ks) text b is) (longer_place front w b p q at refl))

-- the printed text of the kinds spells tokens of these kinds
pub record LexedBack (ks : List TokenKind) : Type 0 where
  pub tokens : List Token
  pub spelled : SpellsTokens (kinds_text ks) Instrumented tokens
  pub are : kinds tokens ≡ ks

pub lexed_back : (ks : List TokenKind) → All IsKind ks → length (kinds_text ks) ≤ 16777216 → LexedBack ks
lexed_back ks given short =
    let whole = spelled_from ks [] (kinds_text ks) 0 given refl refl in
    record { tokens = whole.tokens; spelled = record { short = short; whole = whole.spelled }; are = whole.are }
