-- Nodes that were found, as a working space keeps them.
use Rattle.std.specs.Prelude.{◌≢◌, ℕ, ◌<◌, ◌≤◌, List, length, All, AllPairs}

-- how many nodes there are, and those that were found, in the order in which they were added
pub record Found : Type 0 where
  pub size : ℕ
  pub nodes : List ℕ

-- no node was added twice, and each is one of so many; so no more were found
pub record AreFound (found : Found) : Type 0 where
  pub differ : AllPairs (λ a b. a ≢ b) found.nodes
  pub below : All (λ a. a < found.size) found.nodes
  pub few : length found.nodes ≤ found.size
