-- What is no deeper than d has parts that are no deeper than d.
use Rattle.std.proofs.Common.{ℕ, suc, ◌≤◌, arith}
use Rattle.std.specs.Prelude.{max}

pub both : (m n : ℕ) {d : ℕ} → max m n ≤ d → (m ≤ d) × (n ≤ d)
both m n v = (omega arith, omega arith)

pub deeper : (n : ℕ) {d : ℕ} → n ≤ d → n ≤ suc d
deeper n v = omega arith
