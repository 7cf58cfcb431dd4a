-- For private contracts and proofs alone: the keys that are noted, one after another, and what a sweep leaves.
use Rattle.std.specs.Prelude.{◌≡◌, ◌≢◌, ◌⊎◌, ◌<◌, ℕ, List, ◌++◌, take, Contains, Some, None}
use Rattle.stack_automaton.specs.declared.place.Edge.{Edge}
use Rattle.stack_automaton.specs.Held.{States, HasEdge, Leads}

-- an edge leads there
abbrev pub IsNextTo : States → ℕ → ℕ → Type 0
IsNextTo s k q = (l : ℕ) × HasEdge s k l q

-- edges lead there from one of the keys
abbrev pub IsLedTo : States → List ℕ → ℕ → Type 0
IsLedTo s keys q = (k : ℕ) × Contains keys k × Leads (HasEdge s) k q

-- the edges of the first n keys are followed
pub record AreNotedTo (s : States) (begin all : List ℕ) (n : ℕ) : Type 0 where
  pub grows : (rest : List ℕ) × (all ≡ begin ++ rest)
  pub sound : (q : ℕ) → Contains all q → IsLedTo s begin q
  pub followed : (k q : ℕ) → Contains (take n all) k → IsNextTo s k q → Contains all q

-- the keys below n that are neither noted nor the final key are gone, and the others are as they were
pub record IsSwept (old new : States) (noted : List ℕ) (final n : ℕ) : Type 0 where
  pub kept : (k : ℕ) → Contains noted k ⊎ (k ≡ final) → new k ≡ old k
  pub gone : (k : ℕ) → k < n → (Contains noted k → ⊥) → k ≢ final → new k ≡ None
  pub fewer : (k : ℕ) (edges : List Edge) → new k ≡ Some edges → old k ≡ Some edges
