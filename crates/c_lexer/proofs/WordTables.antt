-- Facts on the tables of words, by tests that compute.
use Rattle.std.proofs.Common.{◌≡◌, ◌≢◌, ◌⊎◌, ◌<◌, ℕ, zero, suc, Bool, true, false, not, ◌&&◌, ◌||◌, Decides, nat_eq, nat_le, nat_lt, List, [], ◌∷◌, length, get_or, map, Contains, Option, Some, None, MatchOption, IsTrue, ◌↔◌, is_some, slice_get, Bor, refl, sym, ◌∙◌, inl, inr, ⊎_elim, arith}
use Rattle.std.specs.Str.{bytes_eq}
use Rattle.std.proofs.lemmas.Slice.Eq.{bytes_eq-Decides}
use Rattle.std.proofs.lemmas.Bool.{false≢true, and_parts, or_cases, leb-true, le-leb, ltb-true, not-true}
use Rattle.std.proofs.lemmas.Bool.Decides.{Decides-and, Decides-or, Decides-not, Decides-ltb, Decides-eqb, Decides-by_and, Decides-by_or, not_from_Decides}
use Rattle.std.proofs.lemmas.Option.{slice_get_within, get_or_from_slice_get}
use Rattle.std.specs.List.{list_all}
use Rattle.std.proofs.lemmas.List.Sums.{AllPass-from_list_all}
use Rattle.std.proofs.lemmas.List.Elements.{All-contains, All-head, All-tail, All-weaker, Decides-contains}
use Rattle.dm_base.specs.Name.{IsLetter, keywords as all_keywords}
use Rattle.c_lexer.specs.Words.{IsWord, IsWordByte, keywords, excluded_keywords, punctuators}
use Rattle.c_lexer.specs.Parts.{BeginsWith, IsOther}

-- whether each word passes
abbrev pub each : (List ℕ → Bool) → List (List ℕ) → Bool
each test [] = true
each test (x ∷ xs) = test x && each test xs

each_Contains : (test : List ℕ → Bool) (words : List (List ℕ)) (w : List ℕ) → list_all test words ≡ true → Contains words w → test w ≡ true
each_Contains test words w h = All-contains (λ v. test v ≡ true) words w (AllPass-from_list_all test words h)

-- whether the text is one of the words
abbrev pub is_among : List (List ℕ) → List ℕ → Bool
is_among [] w = false
is_among (x ∷ xs) w = bytes_eq x w || is_among xs w

among_decides : (words : List (List ℕ)) (w : List ℕ) → Decides (is_among words w) (Contains words w)
among_decides words w =
    Decides-contains words w (is_among words w) (Decides-by_or (λ x. bytes_eq x w) (λ x. x ≡ w) (λ xs. is_among xs w) (λ x. bytes_eq-Decides x w) refl (λ _ _. refl) words)

pub among_false : (words : List (List ℕ)) (w : List ℕ) → is_among words w ≡ false → Contains words w → ⊥
among_false words w = not_from_Decides (is_among words w) (among_decides words w)

abbrev is_letter : ℕ → Bool
is_letter b = (nat_le 65 b && nat_le b 90) || ((nat_le 97 b && nat_le b 122) || nat_eq b 95)

abbrev is_digit : ℕ → Bool
is_digit b = nat_le 48 b && nat_le b 57

letter_decides : (b : ℕ) → Decides (is_letter b) (IsLetter b)
letter_decides b =
    Decides-or _ _ (Decides-and _ _ (leb-true 65 b, le-leb 65 b) (leb-true b 90, le-leb b 90))
    (Decides-or _ _ (Decides-and _ _ (leb-true 97 b, le-leb 97 b) (leb-true b 122, le-leb b 122)) (Decides-eqb b 95))

-- whether the text has a first byte, which passes
abbrev begins : (ℕ → Bool) → List ℕ → Bool
begins test [] = false
begins test (b ∷ w) = test b

begins_true : (test : ℕ → Bool) (w : List ℕ) → begins test w ≡ true → BeginsWith (λ b. test b ≡ true) w
begins_true test [] h = absurd (false≢true h)
begins_true test (b ∷ w) h = (b, w, refl, h)

abbrev are_letters : List ℕ → Bool
are_letters [] = true
are_letters (b ∷ w) = is_letter b && are_letters w

letters_are_word : (w : List ℕ) → 0 < length w → are_letters w ≡ true → IsWord w
letters_are_word [] some h = omega arith
letters_are_word (b ∷ w) some h =
    let all = (Decides-by_and is_letter IsLetter are_letters letter_decides refl (λ _ _. refl) (b ∷ w)).0 h in
    (All-head IsLetter b w all, All-weaker IsLetter IsWordByte (λ c letter. inl letter) w (All-tail IsLetter b w all))

abbrev is_word : List ℕ → Bool
is_word w = are_letters w && (nat_lt 1 (length w) && nat_lt (length w) 64)

-- what a keyword of either table is: letters, 2 to 63 of them
pub record IsFixedWord (w : List ℕ) : Type 0 where
  pub word : IsWord w
  pub long : 1 < length w
  pub short : length w < 64

fixed_from_test : (w : List ℕ) → is_word w ≡ true → IsFixedWord w
fixed_from_test w h =
    let p = and_parts (are_letters w) (nat_lt 1 (length w) && nat_lt (length w) 64) h in
    let q = and_parts (nat_lt 1 (length w)) (nat_lt (length w) 64) p.1 in
    let many : 1 < length w = ltb-true 1 (length w) q.0 in
    record {
      word = letters_are_word w (omega arith) p.0;
      long = many;
      short = ltb-true (length w) 64 q.1;
    }

pub keyword_is_fixed : (w : List ℕ) → Contains keywords w → IsFixedWord w
unfolding keywords
keyword_is_fixed w h = fixed_from_test w (each_Contains is_word keywords w refl h)

pub excluded_is_fixed : (w : List ℕ) → Contains excluded_keywords w → IsFixedWord w
unfolding excluded_keywords
excluded_is_fixed w h = fixed_from_test w (each_Contains is_word excluded_keywords w refl h)

pub c99_is_fixed : (w : List ℕ) → Contains all_keywords w → IsFixedWord w
c99_is_fixed w h = fixed_from_test w (each_Contains is_word all_keywords w refl h)

-- the two tables together are the keywords of C99, and have no word in common
pub c99_keyword : (w : List ℕ) → Contains all_keywords w → Contains keywords w ⊎ Contains excluded_keywords w
unfolding keywords excluded_keywords
c99_keyword w h =
    ⊎_elim (λ one. inl ((among_decides keywords w).0 one)) (λ other. inr ((among_decides excluded_keywords w).0 other))
    (or_cases (is_among keywords w) (is_among excluded_keywords w) (each_Contains (λ v. is_among keywords v || is_among excluded_keywords v) all_keywords w refl h))

pub excluded_is_c99 : (w : List ℕ) → Contains excluded_keywords w → Contains all_keywords w
unfolding excluded_keywords
excluded_is_c99 w h = (among_decides all_keywords w).0 (each_Contains (λ v. is_among all_keywords v) excluded_keywords w refl h)

pub keyword_is_c99 : (w : List ℕ) → Contains keywords w → Contains all_keywords w
unfolding keywords
keyword_is_c99 w h = (among_decides all_keywords w).0 (each_Contains (λ v. is_among all_keywords v) keywords w refl h)

pub excluded_is_no_keyword : (w : List ℕ) → Contains excluded_keywords w → Contains keywords w → ⊥
unfolding keywords excluded_keywords
excluded_is_no_keyword w h k = among_false keywords w (not-true (is_among keywords w) (each_Contains (λ v. not (is_among keywords v)) excluded_keywords w refl h)) k

abbrev is_other : ℕ → Bool
is_other b = not (is_letter b) && (not (is_digit b) && (not (nat_eq b 39) && not (nat_eq b 34)))

-- a byte that begins a punctuator: no white space and no # either
pub record IsMark (b : ℕ) : Type 0 where
  pub other : IsOther b
  pub above : 32 < b
  pub no_marker : b ≢ 35

abbrev is_mark : ℕ → Bool
is_mark b = is_other b && (nat_lt 32 b && not (nat_eq b 35))

is_mark_true : (b : ℕ) → is_mark b ≡ true → IsMark b
is_mark_true b h =
    let digit = Decides-and _ _ (leb-true 48 b, le-leb 48 b) (leb-true b 57, le-leb b 57) in
    let quotes = Decides-and _ _ (Decides-not _ (Decides-eqb b 39)) (Decides-not _ (Decides-eqb b 34)) in
    let ((letter, (no_digit, (single, double))), (above, marker)) = (Decides-and (is_other b) _ (Decides-and _ _ (Decides-not _ (letter_decides b)) (Decides-and _ _ (Decides-not _ digit) quotes)) (Decides-and _ _ (Decides-ltb 32 b) (Decides-not _ (Decides-eqb b 35)))).0 h in
    record { other = record { no_letter = letter; no_digit = no_digit; no_single = single; no_double = double }; above = above; no_marker = marker }

pub punctuator_mark : (w : List ℕ) → Contains punctuators w → BeginsWith IsMark w
unfolding punctuators
punctuator_mark w h =
    let f = begins_true is_mark w (each_Contains (begins is_mark) punctuators w refl h) in
    (f.0, f.1, f.2, is_mark_true f.0 f.3)

-- a punctuator begins with neither a letter, a digit nor a quote
pub punctuator_begins : (w : List ℕ) → Contains punctuators w → BeginsWith IsOther w
punctuator_begins w h = let f = punctuator_mark w h in (f.0, f.1, f.2, f.3.other)

-- the first byte of a punctuator is one by itself
pub punctuator_first : (b : ℕ) (w : List ℕ) → Contains punctuators (b ∷ w) → Contains punctuators (b ∷ [])
unfolding punctuators
punctuator_first b w h = (among_decides punctuators (b ∷ [])).0 (each_Contains (begins (λ c. is_among punctuators (c ∷ []))) punctuators (b ∷ w) refl h)

-- a word by its number
pub number_Contains : (words : List (List ℕ)) (k : ℕ) (w : List ℕ) → slice_get words k ≡ Some w → Contains words w
number_Contains words k w e = (k, slice_get_within words k w e, get_or_from_slice_get words k w w e)

pub keyword_number_below : (k : ℕ) (w : List ℕ) → slice_get keywords k ≡ Some w → k < 22
unfolding keywords
keyword_number_below k w e = slice_get_within keywords k w e

pub punctuator_number_below : (k : ℕ) (w : List ℕ) → slice_get punctuators k ≡ Some w → k < 45
unfolding punctuators
punctuator_number_below k w e = slice_get_within punctuators k w e

-- what a table of references holds at a place
pub slice_get_now : (words : List (Bor (List ℕ))) (k : ℕ) (d : Bor (List ℕ)) → k < length words → slice_get (map (λ word. word.now) words) k ≡ Some (get_or words k d).now
slice_get_now [] k d within = absurd (omega arith)
slice_get_now (x ∷ xs) zero d within = refl
slice_get_now (x ∷ xs) (suc k) d within = slice_get_now xs k d (omega arith)

-- whether a number was found tells whether the word is among them
pub found_tells : (words : List (List ℕ)) (w : List ℕ) (found : Option ℕ) (some : Bool) → MatchOption found (Contains words w → ⊥) (λ k. slice_get words k ≡ Some w) → some ≡ is_some found → IsTrue some ↔ Contains words w
found_tells words w None some none is = (λ e. absurd (false≢true (sym is ∙ e)), λ among. absurd (none among))
found_tells words w (Some k) some at is = (λ e. number_Contains words k w at, λ among. is)
