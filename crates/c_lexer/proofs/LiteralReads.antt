-- What the readers of a literal answer.
use Rattle.std.proofs.Common.{◌≡◌, ℕ, pos, suc, ◌+◌, ◌-◌, ◌<◌, ◌≤◌, List, [], ◌∷◌, ◌++◌, length, get_or, drop, refl, sym, ◌∙◌, ap, subst, inl, inr, arith}
use Rattle.std.specs.Prelude.{All, Any}
use Rattle.std.proofs.Math.Seq.{drop-cons}
use Rattle.std.proofs.lemmas.List.{length-append, length-drop, get_or-drop}
use Rattle.std.proofs.lemmas.List.Elements.{All-nil}
use Rattle.c_lexer.specs.declared.token.TokenKind.{TokenKind}
use Rattle.c_lexer.specs.declared.token.TokenKind.TheVariants.{Char, Str}
use Rattle.c_lexer.specs.declared.error.Cause.{Cause}
use Rattle.c_lexer.specs.declared.error.Cause.TheVariants.{ForeignByte, OpenComment, Malformed, TooLarge}
use Rattle.c_lexer.specs.Codes.{code_of}
use Rattle.c_lexer.specs.Literals.{IsPlain, HasElement, HasElements, IsCharacter, IsString}
use Rattle.c_lexer.specs.Literals.HasElements.{none}
use Rattle.c_lexer.specs.Elements.{IsQuote, HasNoElement}
use Rattle.c_lexer.specs.Kinds.{IsByte, Spells, IsLexeme}
use Rattle.c_lexer.specs.Words.{IsWordByte, IsNumberByte}
use Rattle.dm_base.specs.Name.{IsLetter, IsDigit}
use Rattle.c_lexer.specs.TokenSpelling.{IsToken}
use Rattle.c_lexer.specs.Refusals.{BeginsNoToken, IsMalformedCharacter, IsMalformedString, Holds}
use Rattle.c_lexer.specs.Reading.{IsMisfit}
use Rattle.c_lexer.proofs.EscapeFronts.{has_element}
use Rattle.c_lexer.proofs.EscapeFronts.Front.{a_plain}
use Rattle.c_lexer.proofs.LiteralOne.{one_element, one_chain, one_ended, quote_no_element}
use Rattle.c_lexer.proofs.LiteralParts.{character_parts, string_parts, character_from, string_from}
use Rattle.c_lexer.proofs.LiteralFirst.{single_quoted, double_quoted, single_lexeme, double_lexeme}
use Rattle.c_lexer.proofs.KindsBegin.{first_byte, same_first, spelled_is_lexeme}
use Rattle.c_lexer.proofs.KindsRuns.{whole_first, letter_no_quote, digit_no_quote, below_malformed, below_large}

-- a byte stands at a place
abbrev pub At : List ℕ → ℕ → ℕ → Type 0
At text n b = (n < length text) × (get_or text n 0 ≡ b)

at_from : (first b n : ℕ) (text rest after : List ℕ) → text ≡ first ∷ rest → drop n rest ≡ b ∷ after → At text (n + 1) b
at_from first b n text rest after is e =
    let size : length (drop n rest) ≡ length rest - n = length-drop n rest in
    let some : length (drop n rest) ≡ suc (length after) = ap length e in
    let here : get_or rest n 0 ≡ b = sym (ap (λ (x : ℕ). get_or rest x 0) (let z : n + 0 ≡ n = omega arith in z)) ∙ sym (get_or-drop n rest 0 0) ∙ ap (λ (x : List ℕ). get_or x 0 0) e in
    let found : At (first ∷ rest) (suc n) b = (omega arith, here) in
    let next : suc n ≡ n + 1 = omega arith in
    subst (λ (x : List ℕ). At x (n + 1) b) (sym is) (subst (λ (x : ℕ). At (first ∷ rest) x b) next found)

from_at : (first b n : ℕ) (text rest : List ℕ) → text ≡ first ∷ rest → At text (n + 1) b → drop n rest ≡ b ∷ drop (suc n) rest
from_at first b n text rest is here =
    let next : n + 1 ≡ suc n = omega arith in
    let found : At (first ∷ rest) (suc n) b = subst (λ (x : ℕ). At (first ∷ rest) x b) next (subst (λ (x : List ℕ). At x (n + 1) b) is here) in
    let within : n < length rest = omega (arith, found.0) in
    drop-cons rest n 0 within ∙ ap (λ (x : ℕ). x ∷ drop (suc n) rest) found.1

same_length : (w x y z : List ℕ) → w ++ y ≡ x ++ z → y ≡ z → length x ≤ length w
same_length w x y z e f =
    let one = ap length e in
    let two = ap length f in
    omega (arith, one, two, length-append w y, length-append x z)

-- a quote begins some token
empty_spelled : Spells (Str []) (34 ∷ 34 ∷ [])
empty_spelled = ((34 ∷ [], refl, none), All-nil IsByte)

plain_letter : IsPlain 39 97
plain_letter = record { from = omega arith; below = omega arith; no_control = omega arith; no_quote = omega arith; no_backslash = omega arith }

letter_spelled : Spells (Char (pos 97)) (39 ∷ 97 ∷ 39 ∷ [])
letter_spelled = (97, (97 ∷ 39 ∷ [], refl, has_element (a_plain plain_letter)), omega arith, refl)

quote_begins : (q : ℕ) → IsQuote q → BeginsNoToken q → ⊥
quote_begins q (inl e) foreign = (subst BeginsNoToken e foreign) (Char (pos 97)) (97 ∷ 39 ∷ []) letter_spelled
quote_begins q (inr e) foreign = (subst BeginsNoToken e foreign) (Str []) (34 ∷ []) empty_spelled

no_slash : (q : ℕ) (text rest x : List ℕ) → IsQuote q → text ≡ q ∷ rest → text ≡ 47 ∷ x → ⊥
no_slash q text rest x (inl e) is f = omega (arith, first_byte text rest x q 47 is f)
no_slash q text rest x (inr e) is f = omega (arith, first_byte text rest x q 47 is f)

-- where a quote stands no cause below 3 holds
not_foreign : (q : ℕ) (text rest : List ℕ) → IsQuote q → text ≡ q ∷ rest → Holds ForeignByte text → ⊥
not_foreign q text rest quote is (b, later, e, other, foreign) =
    quote_begins q quote (subst BeginsNoToken (first_byte text later rest b q e is) foreign)

not_comment : (q : ℕ) (text rest : List ℕ) → IsQuote q → text ≡ q ∷ rest → Holds OpenComment text → ⊥
not_comment q text rest quote is ((later, e), endless) = no_slash q text rest (42 ∷ later) quote is e

least_malformed : (q : ℕ) (text rest : List ℕ) → IsQuote q → text ≡ q ∷ rest → (other : Cause) → code_of other < 3 → Holds other text → ⊥
least_malformed q text rest quote is = below_malformed text (not_foreign q text rest quote is) (not_comment q text rest quote is)

least_large : (q : ℕ) (text rest : List ℕ) → IsQuote q → text ≡ q ∷ rest → (Holds Malformed text → ⊥) → (other : Cause) → code_of other < 4 → Holds other text → ⊥
least_large q text rest quote is = below_large text (not_foreign q text rest quote is) (not_comment q text rest quote is)

-- where a literal stands nothing is malformed
not_malformed : (q : ℕ) (text rest : List ℕ) → IsQuote q → text ≡ q ∷ rest → (IsMalformedCharacter text → ⊥) → (IsMalformedString text → ⊥) → Holds Malformed text → ⊥
not_malformed q text rest quote is character string (inl (w, whole, _)) = digit_no_quote q (same_first IsDigit text q rest (whole_first IsDigit IsNumberByte w text whole) is) quote
not_malformed q text rest quote is character string (inr (inl h)) = character h
not_malformed q text rest quote is character string (inr (inr (inl h))) = string h
not_malformed q text rest quote is character string (inr (inr (inr (w, whole, _)))) = letter_no_quote q (same_first IsLetter text q rest (whole_first IsLetter IsWordByte w text whole) is) quote

-- elements up to a place where a quote stands, and where none does
sized : (first n : ℕ) (text rest w : List ℕ) → text ≡ first ∷ rest → text ≡ w ++ drop (suc n) rest → suc n ≤ length rest → length w ≡ n + 1 + 1
sized first n text rest w is e within =
    let one = ap length is in
    let two = ap length e in
    omega (arith, one, two, length-append w (drop (suc n) rest), length-drop (suc n) rest)

-- a part of the text that is a literal
abbrev pub Parts : (List ℕ → Type 0) → List ℕ → ℕ → Type 0
Parts Is text n = (w : List ℕ) × (after : List ℕ) × (text ≡ w ++ after) × Is w × (length w ≡ n + 1 + 1)

-- a form of literals: its text, by what stands behind the first quote
pub record IsLiteral (q : ℕ) (V : Type 0) (Is : List ℕ → V → Type 0) (Has : List ℕ → List ℕ → V → Type 0) : Type 0 where
  pub quote : IsQuote q
  pub parts : (v : V) (w r : List ℕ) → Is w v → (i : List ℕ) × (w ++ r ≡ q ∷ i) × Has i (q ∷ r) v
  pub from : (v : V) (i r : List ℕ) → Has i (q ∷ r) v → (w : List ℕ) × (q ∷ i ≡ w ++ r) × Is w v
  pub one : (v u : V) (i r s : List ℕ) → Has i (q ∷ r) v → Has i (q ∷ s) u → (r ≡ s) × (v ≡ u)
  pub lexeme : (w r i : List ℕ) → IsLexeme w → w ++ r ≡ q ∷ i → (v : V) × Is w v

pub string_form : IsLiteral 34 (List ℕ) IsString (HasElements 34)
string_form = record {
  quote = inr refl;
  parts = λ vs w r s. string_parts r s;
  from = λ vs i r h. string_from r h;
  one = λ vs us i r s h g. one_ended 34 (inr refl) h g;
  lexeme = double_lexeme;
}

pub character_form : IsLiteral 39 ℕ IsCharacter (HasElement 39)
character_form = record {
  quote = inl refl;
  parts = λ v w r s. character_parts r s;
  from = λ v i r h. character_from r h;
  one = λ v u i r s h g. (let both = one_element h g in let rests : 39 ∷ r ≡ 39 ∷ s = both.0 in (cc, both.1));
  lexeme = single_lexeme;
}

module _ {q : ℕ} {V : Type 0} {Is : List ℕ → V → Type 0} {Has : List ℕ → List ℕ → V → Type 0} (form : IsLiteral q V Is Has) where
  -- two literals at the front of one text
  same_literal : (w x y z : List ℕ) (v u : V) → w ++ y ≡ x ++ z → Is w v → Is x u → (y ≡ z) × (v ≡ u)
  same_literal w x y z v u e s t =
      let (i, begins, found) = form.parts v w y s in
      let (k, begins_too, found_too) = form.parts u x z t in
      let same : k ≡ i = cc in
      form.one v u i y z found (subst (λ (p : List ℕ). Has p (q ∷ z) u) same found_too)

  -- a quote that begins no literal
  malformed_literal : (text rest : List ℕ) → text ≡ q ∷ rest → Holds Malformed text → ((w after : List ℕ) (v : V) → text ≡ w ++ after → Is w v → ⊥) → IsMisfit Malformed text
  malformed_literal text rest is holds odd = record {
    holds = holds;
    least = least_malformed q text rest form.quote is;
    no_token = λ kind w after e token.
        (let (v, s) = form.lexeme w after rest (spelled_is_lexeme kind w token.spells) (sym e ∙ is) in odd w after v e s);
  }

  -- a literal with bytes
  pub literal_token : (kind : TokenKind) (text rest w after : List ℕ) (v : V) → text ≡ q ∷ rest → text ≡ w ++ after → Is w v → Spells kind w → IsToken kind w after
  literal_token kind text rest w after v is e s spells = record {
    spells = spells;
    longest = λ x y f lexeme.
        (let (u, t) = form.lexeme x y rest lexeme (sym f ∙ sym e ∙ is) in
        same_length w x after y f (same_literal w x after y v u f s t).0);
    no_line_comment = λ (later, f). no_slash q text rest (47 ∷ later) form.quote is (e ∙ f);
    no_block_comment = λ (later, f). no_slash q text rest (42 ∷ later) form.quote is (e ∙ f);
  }

  pub literal_found : (n : ℕ) (v : V) (text rest : List ℕ) → text ≡ q ∷ rest → Has rest (drop n rest) v → At text (n + 1) q → Parts (λ w. Is w v) text n
  literal_found n v text rest is h here =
      let end = from_at q q n text rest is here in
      let (w, e, s) = form.from v rest (drop (suc n) rest) (subst (λ (x : List ℕ). Has rest x v) end h) in
      let size : length (drop n rest) ≡ length rest - n = length-drop n rest in
      let some : length (drop n rest) ≡ suc (length (drop (suc n) rest)) = ap length end in
      (w, drop (suc n) rest, is ∙ e, s, sized q n text rest w is (is ∙ e) (omega arith))

pub malformed_string : (text rest : List ℕ) → text ≡ 34 ∷ rest → ((w after vs : List ℕ) → text ≡ w ++ after → IsString w vs → ⊥) → IsMisfit Malformed text
malformed_string text rest is odd = malformed_literal string_form text rest is (inr (inr (inl (rest, is, odd)))) odd

pub malformed_character : (text rest : List ℕ) → text ≡ 39 ∷ rest → ((w after : List ℕ) (v : ℕ) → text ≡ w ++ after → IsCharacter w v → ⊥) → IsMisfit Malformed text
malformed_character text rest is odd = malformed_literal character_form text rest is (inr (inl (rest, is, odd))) odd

-- a literal with a value above 255
not_bytes : (vs bytes : List ℕ) → vs ≡ bytes → Any (λ v. 255 < v) vs → All IsByte bytes → ⊥
not_bytes vs bytes e (k, x, within, is, large) all =
    let size = ap length e in
    let low : get_or bytes k x ≤ 255 = all k x (omega (arith, size, within)) in
    let same : get_or vs k x ≡ get_or bytes k x = ap (λ (y : List ℕ). get_or y k x) e in
    omega (arith, same, is, large)

pub large_string : (text rest w after vs : List ℕ) → text ≡ 34 ∷ rest → text ≡ w ++ after → IsString w vs → Any (λ v. 255 < v) vs → IsMisfit TooLarge text
large_string text rest w after vs is e s any = record {
  holds = inr (w, after, vs, e, inl s, any);
  least = least_large 34 text rest (inr refl) is (not_malformed 34 text rest (inr refl) is (λ (x, f, odd). omega (arith, first_byte text rest x 34 39 is f)) (λ (x, f, odd). odd w after vs e s));
  no_token = λ kind x y f token.
      (let (bytes, kinds, t, all) = double_quoted kind x y rest token.spells (sym f ∙ is) in
      not_bytes vs bytes (same_literal string_form w x after y vs bytes (sym e ∙ f) s t).1 any all);
}

pub large_character : (text rest w after : List ℕ) (v : ℕ) → text ≡ 39 ∷ rest → text ≡ w ++ after → IsCharacter w v → 255 < v → IsMisfit TooLarge text
large_character text rest w after v is e s large = record {
  holds = inr (w, after, v ∷ [], e, inr (v, refl, s), (0, v, omega arith, refl, large));
  least = least_large 39 text rest (inl refl) is (not_malformed 39 text rest (inl refl) is (λ (x, f, odd). odd w after v e s) (λ (x, f, odd). omega (arith, first_byte text rest x 39 34 is f)));
  no_token = λ kind x y f token.
      (let (c, u, kinds, t, byte, value) = single_quoted kind x y rest token.spells (sym f ∙ is) in
      let same = (same_literal character_form w x after y v u (sym e ∙ f) s t).1 in
      omega (arith, same, byte, large));
}

pub no_string : (n : ℕ) (text rest vs : List ℕ) → text ≡ 34 ∷ rest → HasElements 34 rest (drop n rest) vs → HasNoElement 34 (drop n rest) → (At text (n + 1) 34 → ⊥) → (w after us : List ℕ) → text ≡ w ++ after → IsString w us → ⊥
no_string n text rest vs is h ended open_end w after us e s =
    let (i, begins, found) = string_parts after s in
    let same : i ≡ rest = cc in
    let both = one_chain h ended (subst (λ (x : List ℕ). HasElements 34 x (34 ∷ after) us) same found) (quote_no_element 34 after (inr refl)) in
    open_end (at_from 34 34 n text rest after is both.0)

pub no_character : (n v : ℕ) (text rest : List ℕ) → text ≡ 39 ∷ rest → HasElement 39 rest (drop n rest) v → (At text (n + 1) 39 → ⊥) → (w after : List ℕ) (u : ℕ) → text ≡ w ++ after → IsCharacter w u → ⊥
no_character n v text rest is h open_end w after u e s =
    let (i, begins, found) = character_parts after s in
    let same : i ≡ rest = cc in
    let both = one_element h (subst (λ (x : List ℕ). HasElement 39 x (39 ∷ after) u) same found) in
    open_end (at_from 39 39 n text rest after is both.0)

pub no_first : (text rest : List ℕ) → text ≡ 39 ∷ rest → HasNoElement 39 rest → (w after : List ℕ) (u : ℕ) → text ≡ w ++ after → IsCharacter w u → ⊥
no_first text rest is stop w after u e s =
    let (i, begins, found) = character_parts after s in
    let same : i ≡ rest = cc in
    stop (39 ∷ after) u (subst (λ (x : List ℕ). HasElement 39 x (39 ∷ after) u) same found)
