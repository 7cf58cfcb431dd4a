-- For private contracts and proofs alone: lower-case hexadecimal digits.
use Rattle.std.specs.Prelude.{ℕ, ◌≤◌, ◌⊎◌}

-- 0 to 9 or a to f
abbrev pub IsLowerDigit : ℕ → Type 0
IsLowerDigit b = ((48 ≤ b) × (b ≤ 57)) ⊎ ((97 ≤ b) × (b ≤ 102))
