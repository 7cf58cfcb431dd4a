-- The longest word at the front of a text.
use Rattle.std.proofs.Common.{◌≡◌, ◌≤◌, ◌<◌, ◌+◌, ℕ, List, ◌∷◌, ◌++◌, length, get_or, Contains, Option, Some, None, MatchOption, slice_get, refl, ap, sym, ◌∙◌, subst, ⊎_elim, arith}
use Rattle.std.proofs.lemmas.Bool.{cases_lt}
use Rattle.std.proofs.lemmas.Option.{slice_get-get_or}
use Rattle.c_lexer.specs.Words.{punctuators}
use Rattle.c_lexer.specs.Parts.{FindsFront, HasNoFront, IsLongestFront}
use Rattle.c_lexer.proofs.WordTables.{number_Contains, punctuator_begins}

-- what was found: a word at the front with this length, or none yet
abbrev pub IsFound : List (List ℕ) → List ℕ → Option ℕ → ℕ → Type 0
IsFound words i None long = long ≡ 0
IsFound words i (Some p) long = (w : List ℕ) × (rest : List ℕ) × (slice_get words p ≡ Some w) × (i ≡ w ++ rest) × (length w ≡ long)

-- the longest of the first n words at the front is found, and has this length
pub record IsLongestSoFar (words : List (List ℕ)) (i : List ℕ) (n : ℕ) (found : Option ℕ) (long : ℕ) : Type 0 where
  pub found_it : IsFound words i found long
  pub longest : (k : ℕ) (x y : List ℕ) → k < n → slice_get words k ≡ Some x → i ≡ x ++ y → length x ≤ long

same_word : (words : List (List ℕ)) (n k : ℕ) (w x : List ℕ) → k ≡ n → slice_get words n ≡ Some w → slice_get words k ≡ Some x → w ≡ x
same_word words n k w x same at other = let e : slice_get words n ≡ Some x = subst (λ m. slice_get words m ≡ Some x) same other in cc

pub longest_same : (words : List (List ℕ)) (i w : List ℕ) (n : ℕ) (found : Option ℕ) (long : ℕ) → IsLongestSoFar words i n found long → slice_get words n ≡ Some w → ((y : List ℕ) → i ≡ w ++ y → length w ≤ long) → IsLongestSoFar words i (n + 1) found long
longest_same words i w n found long so at here = record {
  found_it = so.found_it;
  longest = λ k x y before is_x stands.
      ⊎_elim (λ earlier. so.longest k x y earlier is_x stands)
      (λ later.
      let same : w ≡ x = same_word words n k w x (omega arith) at is_x in
      subst (λ v. length v ≤ long) same (here y (stands ∙ ap (λ v. v ++ y) (sym same))))
      (cases_lt k n);
}

pub longest_new : (words : List (List ℕ)) (i w rest : List ℕ) (n : ℕ) (found : Option ℕ) (long : ℕ) → IsLongestSoFar words i n found long → slice_get words n ≡ Some w → i ≡ w ++ rest → long < length w → IsLongestSoFar words i (n + 1) (Some n) (length w)
longest_new words i w rest n found long so at stands more = record {
  found_it = (w, rest, at, stands, refl);
  longest = λ k x y before is_x stands_x.
      ⊎_elim (λ earlier. let old : length x ≤ long = so.longest k x y earlier is_x stands_x in omega arith)
      (λ later. let same : length w ≡ length x = ap length (same_word words n k w x (omega arith) at is_x) in omega arith)
      (cases_lt k n);
}

contains_at : (words : List (List ℕ)) (x : List ℕ) (k : ℕ) → k < length words → get_or words k x ≡ x → slice_get words k ≡ Some x
contains_at words x k within is = slice_get-get_or words k x within ∙ ap Some is

none_end : (words : List (List ℕ)) (i x y : List ℕ) (long : ℕ) → IsLongestSoFar words i (length words) None long → i ≡ x ++ y → Contains words x → length x ≤ 0
none_end words i x y long so stands (k, within, is) = subst (λ n. length x ≤ n) so.found_it (so.longest k x y within (contains_at words x k within is) stands)

some_end : (words : List (List ℕ)) (i w x y : List ℕ) (p long : ℕ) → IsLongestSoFar words i (length words) (Some p) long → length w ≡ long → i ≡ x ++ y → Contains words x → length x ≤ length w
some_end words i w x y p long so same stands (k, within, is) = subst (λ n. length x ≤ n) (sym same) (so.longest k x y within (contains_at words x k within is) stands)

pub longest_end : (words : List (List ℕ)) (i : List ℕ) (found : Option ℕ) (long : ℕ) → IsLongestSoFar words i (length words) found long → FindsFront words i found
longest_end words i None long so = λ x y stands among. none_end words i x y long so stands among
longest_end words i (Some p) long so =
    let f = so.found_it in (
      f.0,
      f.2,
      record {
        among = number_Contains words p f.0 f.2;
        rest = f.1;
        stands = f.3;
        longest = λ x y stands among. some_end words i f.0 x y p long so f.4 stands among;
      },
    )

pub longest_as : (words : List (List ℕ)) (i : List ℕ) (n : ℕ) (found other : Option ℕ) (long more : ℕ) → other ≡ found → more ≡ long → IsLongestSoFar words i n found long → IsLongestSoFar words i n other more
longest_as words i n found other long more same_found same_long so =
    subst (λ f. IsLongestSoFar words i n f more) (sym same_found) (subst (IsLongestSoFar words i n found) (sym same_long) so)

-- each punctuator has a byte
pub punctuator_found : (i : List ℕ) (found : Option ℕ) → FindsFront punctuators i found → MatchOption found (HasNoFront punctuators i) (λ p. (w : List ℕ) × (slice_get punctuators p ≡ Some w) × IsLongestFront punctuators w i)
punctuator_found i None none = λ x y stands among.
    let first = punctuator_begins x among in
    let long : length x ≡ length (first.0 ∷ first.1) = ap length first.2 in
    let short : length x ≤ 0 = none x y stands among in
    omega arith
punctuator_found i (Some p) some = some
