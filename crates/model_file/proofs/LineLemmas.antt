-- The words of the lines of a model.
use Rattle.std.proofs.Common.{◌≡◌, ℕ, zero, suc, ◌<◌, ◌^◌, Bool, true, not, ◌&&◌, nat_eq, List, [], ◌∷◌, ◌++◌, decimal, refl, sym, ◌∙◌, ap, inl, inr, Contains, append_assoc, arith}
use Rattle.std.proofs.lemmas.Bool.{and_parts, true≢false}
use Rattle.std.proofs.lemmas.List.Elements.{Contains-append_cases}
use Rattle.line_text.specs.Words.{IsPlain, is_in_line, number_word}
use Rattle.line_text.proofs.NumberLemmas.{decimal-IsPlain}
use Rattle.line_text.proofs.WordLemmas.{IsPlain-no_feed}
use Rattle.model_file.specs.ModelText.{IsSmall}
use Rattle.model_file.proofs.Narrowing.{IsPart}
use Rattle.line_text.proofs.Separators.{no_feed_space}

no_feed_first : (b : ℕ) (later : Bool) → (not (nat_eq b 10) && later) ≡ true → b ≡ 10 → ⊥
no_feed_first b later both is =
    true≢false (sym (and_parts (not (nat_eq b 10)) later both).0 ∙ ap (λ n. not (nat_eq n 10)) is)

-- a word that may be followed by a space in its line has no line feed
pub plain_word : (word : List ℕ) → is_in_line (word ++ 32 ∷ []) ≡ true → Contains word 10 → ⊥
plain_word [] in_line has = omega (arith, has.1)
plain_word (b ∷ []) in_line (zero, within, is) = no_feed_first b true in_line is
plain_word (b ∷ []) in_line (suc k, within, is) = omega (arith, within)
plain_word (b ∷ c ∷ word) in_line (zero, within, is) = no_feed_first b (is_in_line (c ∷ word ++ 32 ∷ [])) in_line is
plain_word (b ∷ c ∷ word) in_line (suc k, within, is) =
    plain_word (c ∷ word) (and_parts (not (nat_eq b 10)) (is_in_line (c ∷ word ++ 32 ∷ [])) in_line).1 (k, omega (arith, within), is)

pub in_line_word : (word : List ℕ) → is_in_line (word ++ 32 ∷ []) ≡ true → is_in_line word ≡ true
in_line_word (b ∷ c ∷ word) in_line =
    let both = and_parts (not (nat_eq b 10)) (is_in_line (c ∷ word ++ 32 ∷ [])) in_line in
    ap (λ t. t && is_in_line (c ∷ word)) both.0 ∙ in_line_word (c ∷ word) both.1
in_line_word word in_line = refl

-- a word and the space after it have no line feed
pub plain_spaced : (word : List ℕ) → IsPlain word → Contains (word ++ 32 ∷ []) 10 → ⊥
plain_spaced word plain has = elim (Contains-append_cases word (32 ∷ []) 10 has) [
  | inl within ↦ IsPlain-no_feed word plain within
  | inr after ↦ no_feed_space after
]

pub plain_number : (n : ℕ) → n < 2 ^ 64 → Contains (number_word 32 n) 10 → ⊥
plain_number n small = plain_spaced (decimal n) (decimal-IsPlain n small)

-- a word that each line of a kind begins with, where there is one
pub first_word : {V : Type 0} {Fits : V → Type 0} {text : V → List ℕ} {rest : V → List ℕ} (word : List ℕ) → (v : V) → Fits v → ((w : V) → Fits w → text w ≡ word ++ rest w) → (Contains word 10 → ⊥) → IsPart Fits text (λ w. tt {0}) (λ u. Unit {0}) (λ u. word) rest
first_word word v fits splits plain = record {
  into = λ w in_w. tt;
  some = λ u in_u. (v, fits, refl);
  splits = splits;
  plain = λ u in_u. plain;
}

-- a word, a number, and a line feed
pub word_of_number : (word : List ℕ) → is_in_line (word ++ 32 ∷ []) ≡ true → IsPart IsSmall (λ n. word ++ decimal n ++ 10 ∷ []) (λ n. tt {0}) (λ u. Unit {0}) (λ u. word) (number_word 10)
word_of_number word in_line = first_word word 0 (omega arith) (λ n small. append_assoc word (decimal n) (10 ∷ [])) (plain_word word in_line)
