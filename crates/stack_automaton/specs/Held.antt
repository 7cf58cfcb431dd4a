-- What the states of a pool hold: stacks, as the labels of paths.
use Rattle.std.specs.Prelude.{◌≡◌, ℕ, List, [], ◌∷◌, Option, Some, Contains}
use Rattle.stack_automaton.specs.declared.place.Edge.{Edge}

-- the edges of the state at each key, and None at a key that isn't there
abbrev pub States : Type 0
States = ℕ → Option (List Edge)

-- the key is there
abbrev pub IsThere : States → ℕ → Type 0
IsThere s k = (edges : List Edge) × (s k ≡ Some edges)

-- an edge with the label l leads from the state at k to the key q
abbrev pub HasEdge : States → ℕ → ℕ → ℕ → Type 0
HasEdge s k l q = (edges : List Edge) × (s k ≡ Some edges) × Contains edges (record { label = l; to = q })

-- along the edges E, labels lead from the key to the final key
pub data Path (E : ℕ → ℕ → ℕ → Type 0) (final : ℕ) : ℕ → List ℕ → Type 0 where
  ends : Path E final final []
  on : {k l q : ℕ} {z : List ℕ} → E k l q → Path E final q z → Path E final k (l ∷ z)

-- the configuration of the node v with the open sites z is held from the key: edges labelled v and z lead from it to the final key
abbrev pub IsHeld : States → ℕ → ℕ → ℕ → List ℕ → Type 0
IsHeld s final key v z = Path (HasEdge s) final key (v ∷ z)

-- along the edges E one key leads to another
pub data Leads (E : ℕ → ℕ → ℕ → Type 0) : ℕ → ℕ → Type 0 where
  here : {k : ℕ} → Leads E k k
  on : {k l q r : ℕ} → E k l q → Leads E q r → Leads E k r
