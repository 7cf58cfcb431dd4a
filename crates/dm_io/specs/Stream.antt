-- What a sink over a writer is seen as.
use Rattle.std.specs.Prelude.{ℕ, List, Option}

-- the faults so far, and the bytes that the writer holds, where it tells them
pub record StreamState : Type 0 where
  pub faults : ℕ
  pub contents : Option (List ℕ)
