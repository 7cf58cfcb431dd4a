-- The token or the cause where a quote stands, by the elements that were read.
use Rattle.std.proofs.Common.{◌≡◌, ℕ, ℤ, ◌+◌, ◌<◌, ◌≤◌, Bool, true, false, List, ◌∷◌, length, take, drop, refl, sym, ◌∙◌, ap, subst}
use Rattle.std.specs.Prelude.{Some, None}
use Rattle.c_lexer.specs.declared.escape.Element.{Element}
use Rattle.c_lexer.specs.declared.literal.Elements.{Elements}
use Rattle.c_lexer.specs.declared.token.TokenKind.TheVariants.{Char, Str}
use Rattle.c_lexer.specs.declared.error.Cause.TheVariants.{Malformed, TooLarge}
use Rattle.c_lexer.specs.Literals.{char_value}
use Rattle.c_lexer.specs.Elements.{KeepsByte, HasNoElement, HasValues, ReadsElement, ReadsElements}
use Rattle.c_lexer.specs.TokenSpelling.{IsToken}
use Rattle.c_lexer.specs.Reading.{IsMisfit}
use Rattle.c_lexer.proofs.LiteralReads.{At, malformed_string, malformed_character, large_string, large_character, string_form, character_form, literal_token, literal_found, no_string, no_character, no_first}
use Rattle.c_lexer.proofs.KindsBegin.{token_at}

pub string_open : (text rest : List ℕ) (e : Elements) → text ≡ 34 ∷ rest → ReadsElements 34 rest e → (At text (e.length + 1) 34 → ⊥) → IsMisfit Malformed text
string_open text rest e is reads ended =
    malformed_string text rest is (no_string e.length text rest reads.0.values is reads.0.are reads.1 ended)

pub string_large : (text rest : List ℕ) (e : Elements) → text ≡ 34 ∷ rest → ReadsElements 34 rest e → At text (e.length + 1) 34 → e.large ≡ true → IsMisfit TooLarge text
string_large text rest e is reads here large =
    let (w, after, begins, s, size) = literal_found string_form e.length reads.0.values text rest is reads.0.are here in
    large_string text rest w after reads.0.values is begins s (subst (λ (b : Bool). HasValues b e.bytes.items reads.0.values) large reads.0.have)

pub string_fits : (text rest bytes : List ℕ) (e : Elements) → text ≡ 34 ∷ rest → ReadsElements 34 rest e → At text (e.length + 1) 34 → e.large ≡ false → bytes ≡ e.bytes.items → (e.length + 1 + 1 ≤ length text) × IsToken (Str bytes) (take (e.length + 1 + 1) text) (drop (e.length + 1 + 1) text)
string_fits text rest bytes e is reads here small same =
    let (w, after, begins, s, size) = literal_found string_form e.length reads.0.values text rest is reads.0.are here in
    let have = subst (λ (b : Bool). HasValues b e.bytes.items reads.0.values) small reads.0.have in
    let token = literal_token string_form (Str reads.0.values) text rest w after reads.0.values is begins s (s, have.1) in
    token_at (Str bytes) (e.length + 1 + 1) text w after begins size (subst (λ (x : List ℕ). IsToken (Str x) w after) (have.0 ∙ sym same) token)

pub character_none : (text rest : List ℕ) → text ≡ 39 ∷ rest → HasNoElement 39 rest → IsMisfit Malformed text
character_none text rest is stop = malformed_character text rest is (no_first text rest is stop)

pub character_open : (text rest : List ℕ) (e : Element) → text ≡ 39 ∷ rest → ReadsElement 39 rest (Some e) → (At text (e.length + 1) 39 → ⊥) → IsMisfit Malformed text
character_open text rest e is (within, (v, h, value)) ended =
    malformed_character text rest is (no_character e.length v text rest is h ended)

pub character_large : (text rest : List ℕ) (e : Element) → text ≡ 39 ∷ rest → ReadsElement 39 rest (Some e) → At text (e.length + 1) 39 → e.value ≡ None → IsMisfit TooLarge text
character_large text rest e is (within, (v, h, keeps)) here none =
    let large : 255 < v = subst (KeepsByte v) none keeps in
    let (w, after, begins, s, size) = literal_found character_form e.length v text rest is h here in
    large_character text rest w after v is begins s large

pub character_fits : (text rest : List ℕ) (e : Element) (byte : ℕ) (c : ℤ) → text ≡ 39 ∷ rest → ReadsElement 39 rest (Some e) → At text (e.length + 1) 39 → e.value ≡ Some byte → c ≡ char_value byte → (e.length + 1 + 1 ≤ length text) × IsToken (Char c) (take (e.length + 1 + 1) text) (drop (e.length + 1 + 1) text)
character_fits text rest e byte c is (within, (v, h, keeps)) here held same =
    let (known, small) : KeepsByte v (Some byte) = subst (KeepsByte v) held keeps in
    let (w, after, begins, s, size) = literal_found character_form e.length v text rest is h here in
    let token = literal_token character_form (Char (char_value v)) text rest w after v is begins s (v, s, small, refl) in
    let value_is : char_value v ≡ c = ap char_value known ∙ sym same in
    token_at (Char c) (e.length + 1 + 1) text w after begins size (subst (λ (x : ℤ). IsToken (Char x) w after) value_is token)
