-- Lemmas that several crates above use.
use Rattle.std.proofs.Common.{arith, inl, inr, ℕ, ◌≤◌}
use Rattle.dm_io.specs.Faults.{Rose}

-- a count that rose from a later place on
pub rises : (before between after : ℕ) → before ≤ between → Rose between after → Rose before after
rises before between after less (inl more) = inl (omega (arith, less, more))
rises before between after less (inr full) = inr full
