-- For private contracts and proofs alone: the strings among what stands before.
use Rattle.std.specs.Prelude.{ℕ, ◌≤◌, ◌<◌, List, length, All}
use Rattle.c_rules.specs.Limits.{most_cells}

-- each is within the limit on a string, and has a cell at least
pub record AreHeld (strings : List (List ℕ)) (cells : ℕ) : Type 0 where
  pub few : length strings ≤ cells
  pub short : All (λ w. length w < most_cells) strings
