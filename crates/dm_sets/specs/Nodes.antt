-- A set of numbers below a size.
use Rattle.std.specs.Prelude.{ℕ, IsTrue, refl}
use Rattle.std.specs.Coded.{Coded, code_by, coded×, coded_ℕ}
use Rattle.std.specs.Ordering.{nat_cmp}
use Rattle.std.specs.FinSet.{FinSet, contains, code}

-- numbers are from 0 to below the size; a finite set is the list of its members in increasing order
pub record Nodes : Type 0 where
  pub size : ℕ
  pub members : FinSet nat_cmp

-- the number is in the set
abbrev pub Has : Nodes → ℕ → Type 0
Has s k = IsTrue (contains s.members k)

-- such a set is stored as the pair of its fields
abbrev pub nodes_code : Coded Nodes
nodes_code =
    code_by (ℕ × FinSet nat_cmp) (coded× coded_ℕ (code coded_ℕ)) (λ s. (s.size, s.members)) (λ p. record { size = p.0; members = p.1 }) (λ _. refl)
