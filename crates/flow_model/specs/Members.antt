-- For private contracts and proofs alone: the set beside the list of the nodes that were found.
use Rattle.std.specs.Prelude.{◌≢◌, ℕ, ◌<◌, List, All, AllPairs, Contains}
use Rattle.dm_sets.specs.Nodes.{Nodes, Has}

-- the set has exactly the nodes of the list, each of which stands once
pub record IsSetOf (members : Nodes) (nodes : List ℕ) : Type 0 where
  pub listed : (a : ℕ) → Has members a → Contains nodes a
  pub has : (a : ℕ) → Contains nodes a → Has members a
  pub differ : AllPairs (λ a b. a ≢ b) nodes
  pub below : All (λ a. a < members.size) nodes
