-- Where silent edges lead.
use Rattle.std.specs.Prelude.{ℕ}
use Rattle.flow_model.specs.Graph.{Graph, HasSilent}

-- silent edges alone lead from the first node to the second
pub data LeadsTo (g : Graph) : ℕ → ℕ → Type 0 where
  here : {a : ℕ} → LeadsTo g a a
  on : {a b c : ℕ} → HasSilent g a b → LeadsTo g b c → LeadsTo g a c
