-- For private contracts and proofs alone: how the entries of a pattern stand in a row of three.
use Rattle.std.specs.Prelude.{◌≡◌, ℕ, ◌-◌, ◌≤◌, List, ◌++◌, take, drop, length, replicate, Option, None, ℤ}
use Rattle.std.proofs.Common.{arith}
use Rattle.std.proofs.lemmas.List.{length-take-le, take-append-drop}

-- the entries are the first places of the row
abbrev pub entries_of : List (Option ℤ) → ℕ → List (Option ℤ)
entries_of row count = take count row

-- the places past the entries are None
pub record IsPadded (row : List (Option ℤ)) (count : ℕ) : Type 0 where
  pub three : length row ≡ 3
  pub few : count ≤ 3
  pub rest : drop count row ≡ replicate (3 - count) None

-- the row that holds the entries
abbrev pub padded : List (Option ℤ) → List (Option ℤ)
padded entries = entries ++ replicate (3 - length entries) None

pub length-entries_of : (row : List (Option ℤ)) (count : ℕ) → IsPadded row count → length (entries_of row count) ≡ count
length-entries_of row count padding =
    let fits : count ≤ length row = omega (arith, padding.three, padding.few) in
    length-take-le count row fits

pub padded-entries_of : (row : List (Option ℤ)) (count : ℕ) → IsPadded row count → padded (entries_of row count) ≡ row
padded-entries_of row count padding =
    rw (length-entries_of row count padding, ← padding.rest) (take-append-drop count row)
