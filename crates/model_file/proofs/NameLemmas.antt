-- Names, and what names begin with.
use Rattle.std.proofs.Common.{◌≡◌, ℕ, ◌<◌, ◌≤◌, Bool, true, not, ◌&&◌, nat_eq, nat_lt, List, [], ◌∷◌, ◌++◌, length, All, Contains, refl, sym, ◌∙◌, ap, subst, inl, inr, arith, length-append}
use Rattle.std.specs.Prelude.{◌⊎◌}
use Rattle.std.specs.List.{list_all}
use Rattle.std.proofs.lemmas.Bool.{and_parts, true≢false, ltb-true}
use Rattle.std.proofs.lemmas.Bool.{cases_lt}
use Rattle.std.proofs.lemmas.List.{append-nil}
use Rattle.std.proofs.lemmas.List.Elements.{All-cons, All-head, All-tail, All-push, All-nil, All-contains, Contains-push}
use Rattle.std.proofs.lemmas.List.Sums.{AllPass-from_list_all}
use Rattle.dm_base.specs.Name.{IsName, IsLetter, IsDigit, keywords}
use Rattle.line_text.specs.Spelling.{BeginsOne}
use Rattle.line_text.specs.Words.{IsPlain, IsEnd}
use Rattle.model_file.specs.Words.{IsNameFront}
use Rattle.model_file.proofs.OrderLemmas.{all_front}

-- keywords

-- shorter than 63 bytes, and without the digit 0
abbrev is_apart : List ℕ → Bool
is_apart word = nat_lt (length word) 63 && list_all (λ b. not (nat_eq b 48)) word

keyword_parts : (word : List ℕ) → Contains keywords word → (nat_lt (length word) 63 ≡ true) × (list_all (λ b. not (nat_eq b 48)) word ≡ true)
keyword_parts word has = and_parts (nat_lt (length word) 63) (list_all (λ b. not (nat_eq b 48)) word) (All-contains (λ w. is_apart w ≡ true) keywords word (AllPass-from_list_all is_apart keywords refl) has)

no_keyword_zero : (text : List ℕ) → Contains keywords (text ++ 48 ∷ []) → ⊥
no_keyword_zero text has =
    let all = AllPass-from_list_all (λ b. not (nat_eq b 48)) (text ++ 48 ∷ []) (keyword_parts (text ++ 48 ∷ []) has).1 in
    true≢false (sym (All-contains (λ b. not (nat_eq b 48) ≡ true) (text ++ 48 ∷ []) 48 all (Contains-push text 48)))

no_keyword_long : (text : List ℕ) → 63 ≤ length text → Contains keywords text → ⊥
no_keyword_long text long has =
    let short = ltb-true (length text) 63 (keyword_parts text has).0 in
    omega arith

-- what a name begins with

abbrev IsNameByte : ℕ → Type 0
IsNameByte b = IsLetter b ⊎ IsDigit b

zero_after : (text : List ℕ) → IsNameFront text → 1 ≤ length text → length text < 63 → IsName (text ++ 48 ∷ [])
zero_after text front some short = record {
  some = omega (arith, length-append text (48 ∷ []));
  short = omega (arith, length-append text (48 ∷ []));
  begins = first text front.begins some;
  bytes = All-push IsNameByte text 48 front.bytes (inr (omega arith, omega arith));
  free = no_keyword_zero text;
} where
  first : (t : List ℕ) → ((b : ℕ) (rest : List ℕ) → t ≡ b ∷ rest → IsLetter b) → 1 ≤ length t → (b : ℕ) (rest : List ℕ) → t ++ 48 ∷ [] ≡ b ∷ rest → IsLetter b
  first [] begins some b rest is = absurd (omega arith)
  first (x ∷ t) begins some b rest is = let same : x ≡ b = cc in subst IsLetter same (begins x t refl)

long_name : (text : List ℕ) → IsNameFront text → 63 ≤ length text → IsName text
long_name text front long = record {
  some = omega arith;
  short = front.short;
  begins = front.begins;
  bytes = front.bytes;
  free = no_keyword_long text long;
}

some_front : IsNameFront (97 ∷ [])
some_front = record {
  short = omega arith;
  begins = λ b rest is. let same : 97 ≡ b = cc in subst IsLetter same (inr (inl (omega arith, omega arith)));
  bytes = All-cons IsNameByte 97 [] (inl (inr (inl (omega arith, omega arith)))) (All-nil IsNameByte);
}

pub some_name : (name : List ℕ) × IsName name
some_name = (97 ∷ 48 ∷ [], zero_after (97 ∷ []) some_front (omega arith) (omega arith))

pub name_of_front : (text : List ℕ) → IsNameFront text → BeginsOne IsName (λ name. name) text
name_of_front [] front = (some_name.0, some_name.0, some_name.1, refl)
name_of_front (b ∷ text) front = elim (cases_lt (length (b ∷ text)) 63) [
  | inl short ↦ (b ∷ text ++ 48 ∷ [], 48 ∷ [], zero_after (b ∷ text) front (omega arith) short, refl)
  | inr long ↦ (b ∷ text, [], long_name (b ∷ text) front long, sym (append-nil (b ∷ text)))
]

pub front_of_name : (text : List ℕ) → BeginsOne IsName (λ name. name) text → IsNameFront text
front_of_name text (name, rest, fits, is) = record {
  short = let short = fits.short in omega (arith, length-append text rest, ap length is);
  begins = λ b later same. fits.begins b (later ++ rest) (is ∙ ap (λ t. t ++ rest) same);
  bytes = all_front IsNameByte text rest (subst (All IsNameByte) is fits.bytes);
}

not_end : (b : ℕ) → IsNameByte b → IsEnd b → ⊥
not_end b (inl (inr (inl small))) (inl is) = omega arith
not_end b a u = omega arith

all_plain : (text : List ℕ) → All IsNameByte text → IsPlain text
all_plain [] all = tt
all_plain (b ∷ text) all = (not_end b (All-head IsNameByte b text all), all_plain text (All-tail IsNameByte b text all))

pub name-IsPlain : (name : List ℕ) → IsName name → IsPlain name
name-IsPlain name fits = all_plain name fits.bytes
