-- The nodes that are reached from a function's entry while no other function stays entered.
use Rattle.std.specs.Prelude.{ℕ, ℤ, List, Option}
use Rattle.flow_model.specs.Graph.{Graph, HasSilent, HasSys, HasCall, HasFunction}

-- the node is reached from the entry of the function by silent edges, by system-call edges, and by call edges with a
-- candidate whose exit is reached from its own entry
pub data Within (g : Graph) : ℕ → ℕ → Type 0 where
  begins : {f entry exit : ℕ} → HasFunction g f entry exit → Within g f entry
  silent : {f a b : ℕ} → Within g f a → HasSilent g a b → Within g f b
  sys : {f a x b : ℕ} {p : List (Option ℤ)} → Within g f a → HasSys g a x p b → Within g f b
  passes : {f a s b h entry exit : ℕ} → Within g f a → HasCall g a s b h → HasFunction g h entry exit → Within g h exit → Within g f b
