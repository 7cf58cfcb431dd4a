-- For private contracts and proofs alone: different nodes, beside an index of them.
use Rattle.std.specs.Prelude.{◌≡◌, ℕ, if◌then◌else◌, List, [], ◌∷◌, ◌++◌, nat_eq}
use Rattle.std.specs.List.{list_any}

-- nodes, in the order in which they were found
pub record Nodes : Type 0 where
  pub keys : List ℕ

-- the nodes with this one, where it wasn't there
abbrev pub with_node : List ℕ → ℕ → List ℕ
with_node nodes node = if list_any (nat_eq node) nodes then nodes else nodes ++ node ∷ []

-- just the nodes of the list are in the index
abbrev pub AreIndexed : List ℕ → List ℕ → Type 0
AreIndexed nodes index = (node : ℕ) → list_any (nat_eq node) index ≡ list_any (nat_eq node) nodes
