-- A call edge as contracts see it.
use Rattle.std.specs.Prelude.{ℕ, List}

-- from a node to a node, with its site and the functions that it may enter
pub record Call : Type 0 where
  pub from : ℕ
  pub site : ℕ
  pub to : ℕ
  pub candidates : List ℕ
