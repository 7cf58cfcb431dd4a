-- Chains of sites: which calls may be open at the same time.
use Rattle.std.specs.Prelude.{◌≡◌, ◌≢◌, ℕ, ◌<◌, ◌≤◌, List, [], ◌∷◌, ◌++◌, length, AllPairs}
use Rattle.flow_model.specs.Graph.{Graph, HasCall}
use Rattle.inline_model.specs.Within.{Within}

-- the call edge of the site leaves a node within the function, and the candidate is one of its candidates
pub record Opening (g : Graph) (function site candidate : ℕ) : Type 0 where
  pub from : ℕ
  pub to : ℕ
  pub call : HasCall g from site to candidate
  pub within : Within g function from

-- the site u has a candidate, and its call edge leaves a node within a candidate of the site s
pub record Opens (g : Graph) (s u : ℕ) : Type 0 where
  pub from : ℕ
  pub to : ℕ
  pub function : ℕ
  pub candidate : ℕ
  pub call : HasCall g from s to function
  pub opening : Opening g function u candidate

-- the site has a candidate, and its call edge leaves a node within the start function
abbrev pub IsFirst : Graph → ℕ → Type 0
IsFirst g s = (candidate : ℕ) × Opening g g.start s candidate

-- the site opens the first of the sites, and each of them opens the next
pub data LeadsOn (g : Graph) : ℕ → List ℕ → Type 0 where
  ends : {s : ℕ} → LeadsOn g s []
  opens : {s u : ℕ} {sites : List ℕ} → Opens g s u → LeadsOn g u sites → LeadsOn g s (u ∷ sites)

-- the first site is first, and each opens the next
pub data IsChain (g : Graph) : List ℕ → Type 0 where
  empty : IsChain g []
  first : {s : ℕ} {sites : List ℕ} → IsFirst g s → LeadsOn g s sites → IsChain g (s ∷ sites)

-- the longest chains have this length
pub record IsGreatest (g : Graph) (n : ℕ) : Type 0 where
  pub some : (sites : List ℕ) × IsChain g sites × (length sites ≡ n)
  pub all : (sites : List ℕ) → IsChain g sites → length sites ≤ n

-- for each number there is a longer chain
abbrev pub HasNoGreatest : Graph → Type 0
HasNoGreatest g = (n : ℕ) → (sites : List ℕ) × IsChain g sites × (n < length sites)

-- the sites form a chain, none of them stands twice, and the last site of the cycle opens the first one of the cycle
pub record IsRecursion (g : Graph) (first cycle : List ℕ) : Type 0 where
  pub chain : IsChain g (first ++ cycle)
  pub differ : AllPairs (λ s u. s ≢ u) (first ++ cycle)
  pub oldest : ℕ
  pub newest : ℕ
  pub begins : (sites : List ℕ) × (cycle ≡ oldest ∷ sites)
  pub ends : (sites : List ℕ) × (cycle ≡ sites ++ newest ∷ [])
  pub opens : Opens g newest oldest
