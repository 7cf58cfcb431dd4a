-- Lemmas that several crates above use.
use Rattle.std.proofs.Common.{ℕ, ◌<◌, ◌≤◌, ◌⊎◌}
use Rattle.std.proofs.lemmas.Bool.{cases_lt}

pub within_or : (n m : ℕ) → (n < m) ⊎ (m ≤ n)
within_or n m = cases_lt n m
