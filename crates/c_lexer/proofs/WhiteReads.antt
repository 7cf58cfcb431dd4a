-- What a loop over a text's bytes shows.
use Rattle.std.proofs.Common.{◌≡◌, ◌≢◌, ℕ, ◌+◌, ◌<◌, ◌≤◌, List, [], ◌∷◌, ◌++◌, length, get_or, take, drop, refl, sym, ap, ◌∙◌, ⊎_elim, arith}
use Rattle.std.specs.Prelude.{◌==◌, false}
use Rattle.std.proofs.lemmas.Bool.{cases_order}
use Rattle.std.proofs.lemmas.List.{take-append-drop}
use Rattle.c_lexer.specs.TokenSpelling.{IsLineEnd, HasEndAfter}
use Rattle.c_lexer.specs.Runs.{IsRunLength}
use Rattle.c_lexer.specs.WhiteParts.{IsLine, IsCommentEnd}
use Rattle.c_lexer.proofs.WhiteMarkers.{two_left}

line_end_of : (l : List ℕ) → ((b : ℕ) (rest : List ℕ) → l ≡ b ∷ rest → b ≢ 10 → ⊥) → IsLineEnd l
line_end_of [] ends = tt
line_end_of (b ∷ rest) ends = ⊎_elim (λ same. same) (λ apart. absurd (ends b rest refl (λ e. ⊎_elim (λ low. omega arith) (λ high. omega arith) apart))) (cases_order b 10)

-- the bytes before a line's end, as a run of those that are no line feed
pub line_of_run : (i : List ℕ) (n : ℕ) → IsRunLength (λ b. b ≢ 10) i n → IsLine i n
line_of_run i n run = record {
  within = run.within;
  in_line = λ (k, below, is). run.each k 10 below is;
  ended = line_end_of (drop n i) run.ends;
}

-- where */ stands, by its bytes
pub record EndsAt (i : List ℕ) (n : ℕ) : Type 0 where
  pub within : n + 1 < length i
  pub star : get_or i n 0 ≡ 42
  pub slash : get_or i (n + 1) 0 ≡ 47

pub end_from_EndsAt : (i : List ℕ) (n : ℕ) → EndsAt i n → HasEndAfter (take n i) i
end_from_EndsAt i n at = (drop (n + 1 + 1) i, sym (take-append-drop n i) ∙ ap (λ r. take n i ++ r) (two_left i n 42 47 at.within at.star at.slash))

pub IsCommentEnd-from_reads : (i : List ℕ) (n : ℕ) → EndsAt i n → ((front : List ℕ) → HasEndAfter front i → n ≤ length front) → IsCommentEnd i n
IsCommentEnd-from_reads i n at before = record {
  within = omega (arith, at.within);
  is = end_from_EndsAt i n at;
  first = before;
}

pub some_from_test : (i : List ℕ) → false ≡ (length i == 0) → 0 < length i
some_from_test [] test = cc
some_from_test (b ∷ i) test = omega arith
