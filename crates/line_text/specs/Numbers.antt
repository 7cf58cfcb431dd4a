-- For private contracts and proofs alone: when the decimal of a number begins with that of another, told by the numbers.
use Rattle.std.specs.Prelude.{◌≡◌, ℕ, ◌+◌, ◌*◌, ◌^◌, ◌<◌}

-- the decimal of n is that of m, which is not 0, and k digits more: those that stand for j
abbrev pub IsFrontOf : ℕ → ℕ → Type 0
IsFrontOf m n = (k : ℕ) × (j : ℕ) × (j < 10 ^ k) × (n ≡ m * 10 ^ k + j)
