-- The lengths of the texts of tokens.
use Rattle.std.proofs.Common.{◌≡◌, ℕ, ◌+◌, ◌<◌, ◌≤◌, true, List, [], ◌∷◌, length, drop, get_or, refl, sym, ap, ◌∙◌, arith, ℤ}
use Rattle.std.specs.Prelude.{slice_get, unwrap_or, Some, decimal}
use Rattle.std.proofs.lemmas.List.{drop_more, drop_all, length-append}
use Rattle.c_lexer.specs.declared.token.TokenKind.TheVariants.{Keyword, Int, Char, Str, Punct}
use Rattle.c_lexer.specs.Words.{keywords, punctuators}
use Rattle.c_syntax.specs.Text.{byte_of, element_text, elements_text, kind_text}
use Rattle.c_syntax.proofs.TokenTexts.{no_punctuator}
use Rattle.c_syntax_printing.specs.Counted.{capped, Rises}

pub keyword_length : (k : ℕ) (text : List ℕ) → slice_get keywords k ≡ Some text → length text + 1 ≡ length (kind_text (Keyword k)) + 1
keyword_length k text e = ap (λ o. length (unwrap_or o []) + 1) (sym e)

pub punctuator_length : (k : ℕ) (text : List ℕ) → slice_get punctuators k ≡ Some text → length text + 1 ≡ length (kind_text (Punct k)) + 1
punctuator_length k text e = ap (λ o. length (unwrap_or o []) + 1) (sym e)

pub no_punctuator_length : (k : ℕ) → 45 ≤ k → 1 ≡ length (kind_text (Punct k)) + 1
no_punctuator_length k past = ap (λ w. length w + 1) (sym (no_punctuator k past))

pub unsigned_length : (n : ℕ) → length (decimal n) + 2 ≡ length (kind_text (Int n true)) + 1
unsigned_length n = omega (arith, length-append (decimal n) (117 ∷ []))

pub char_length : (n : ℕ) (c : ℤ) → n ≡ length (element_text 39 (byte_of c)) → n + 3 ≡ length (kind_text (Char c)) + 1
char_length n c is = omega (arith, is, length-append (39 ∷ element_text 39 (byte_of c)) (39 ∷ []))

pub str_length : (bytes : List ℕ) → length (elements_text 34 bytes) + 3 ≡ length (kind_text (Str bytes)) + 1
str_length bytes = omega (arith, length-append (34 ∷ elements_text 34 bytes) (34 ∷ []))

-- one element and the others
pub elements_step :
    (q : ℕ) (bytes : List ℕ) (i : ℕ) → i < length bytes
    → length (elements_text q (drop i bytes)) ≡ length (element_text q (get_or bytes i 0)) + length (elements_text q (drop (i + 1) bytes))
elements_step q bytes i below =
    ap (λ w. length (elements_text q w)) (drop_more bytes i 0 below) ∙ length-append (element_text q (get_or bytes i 0)) (elements_text q (drop (i + 1) bytes))

-- What is left of a literal: whatever is added later, as much is reached.
pub record IsLeft (old : ℕ) (all : List ℕ) (total : ℕ) (rest : List ℕ) (quote : ℕ) : Type 0 where
  pub same : (m : ℕ) → capped (old + (length (elements_text quote all) + m)) ≡ capped (total + (length (elements_text quote rest) + m))

pub all_left : (old : ℕ) (all : List ℕ) (quote : ℕ) → IsLeft old all old (drop 0 all) quote
all_left old all quote = record { same = λ m. refl }

pub element_counted :
    (old total new n : ℕ) (all : List ℕ) (i quote : ℕ) → i < length all → n ≡ length (element_text quote (get_or all i 0))
    → IsLeft old all total (drop i all) quote → Rises total n new → IsLeft old all new (drop (i + 1) all) quote
element_counted old total new n all i quote below is x y = record {
  same = λ m.
      let e : length (elements_text quote (drop i all)) + m ≡ n + (length (elements_text quote (drop (i + 1) all)) + m)
      = omega (arith, elements_step quote all i below, is) in
      x.same m ∙ ap (λ w. capped (total + w)) e ∙ y.same (length (elements_text quote (drop (i + 1) all)) + m);
}

pub elements_counted :
    (old total : ℕ) (all : List ℕ) (i quote : ℕ) → length all ≤ i → IsLeft old all total (drop i all) quote → Rises old (length (elements_text quote all)) total
elements_counted old total all i quote past x = record {
  same = λ m.
      let e : length (elements_text quote (drop i all)) + m ≡ m = ap (λ w. length (elements_text quote w) + m) (drop_all i all past) ∙ omega arith in
      x.same m ∙ ap (λ w. capped (total + w)) e;
}
