-- For private contracts and proofs alone: what the parts of the reader of white space answer.
use Rattle.std.specs.Prelude.{◌≡◌, ◌≢◌, ◌≤◌, ◌+◌, ℕ, List, [], ◌∷◌, ◌++◌, All, length, take, drop}
use Rattle.dm_base.specs.Name.{IsDigit}
use Rattle.c_lexer.specs.TokenSpelling.{IsBlank, IsInLine, IsLineEnd, HasEndAfter}

-- so many bytes stand before the line's end
pub record IsLine (i : List ℕ) (n : ℕ) : Type 0 where
  pub within : n ≤ length i
  pub in_line : IsInLine (take n i)
  pub ended : IsLineEnd (drop n i)

-- so many bytes stand before the first */
pub record IsCommentEnd (i : List ℕ) (n : ℕ) : Type 0 where
  pub within : n + 2 ≤ length i
  pub is : HasEndAfter (take n i) i
  pub first : (front : List ℕ) → HasEndAfter front i → n ≤ length front

-- a line marker as far as its double quote
pub record IsMarkerHead (w : List ℕ) : Type 0 where
  pub digits : List ℕ
  pub is : w ≡ 35 ∷ 32 ∷ digits ++ 32 ∷ 34 ∷ []
  pub some : digits ≢ []
  pub are_digits : All IsDigit digits

-- a line marker begins, as far as its double quote
abbrev pub BeginsMarker : List ℕ → Type 0
BeginsMarker i = (w : List ℕ) × (rest : List ℕ) × (i ≡ w ++ rest) × IsMarkerHead w

-- something stands first that is no blank and no #
pub record IsInk (i : List ℕ) : Type 0 where
  pub some : i ≢ []
  pub no_blank : (b : ℕ) (rest : List ℕ) → i ≡ b ∷ rest → IsBlank b → ⊥
  pub no_marker : (rest : List ℕ) → i ≡ 35 ∷ rest → ⊥
