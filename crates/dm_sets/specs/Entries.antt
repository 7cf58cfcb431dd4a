-- A stack with a bound.
use Rattle.std.specs.Prelude.{ℕ, List}

-- what stands on the stack, the newest first, and how many entries it may hold
pub record Entries : Type 0 where
  pub bound : ℕ
  pub items : List ℕ
