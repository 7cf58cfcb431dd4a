-- The rules that a model keeps, by their numbers, and what is valid.
use Rattle.std.specs.Prelude.{◌≡◌, ◌≢◌, ℕ, ◌<◌, ◌≤◌, List, Some, length, slice_get, All, AllPairs}
use Rattle.std.specs.Ordering.{nat_cmp}
use Rattle.dm_base.specs.Name.{IsName}
use Rattle.sys_table.specs.Table.{IsRight}
use Rattle.flow_model.specs.declared.records.ModelFunction.{ModelFunction}
use Rattle.flow_model.specs.Graph.{Graph, Owns, HaveOneOwner}
use Rattle.flow_model.specs.Order.{silent_order, sys_order, site_order, StrictlyRise}

-- Rule 1: there are 1 to 200,000 nodes, the first function begins at node 0, and the entries strictly rise and are nodes.
pub record HasRightEntries (functions : List ModelFunction) (nodes : ℕ) : Type 0 where
  pub some : 1 ≤ nodes
  pub few : nodes ≤ 200000
  pub first : (one : ModelFunction) → slice_get functions 0 ≡ Some one → one.entry ≡ 0
  pub rise : AllPairs (λ d e. d.entry < e.entry) functions
  pub below : All (λ one. one.entry < nodes) functions

-- Rule 2: each function owns its exit.
abbrev pub HasOwnExits : List ModelFunction → ℕ → Type 0
HasOwnExits functions nodes = (f : ℕ) (one : ModelFunction) → slice_get functions f ≡ Some one → Owns functions nodes f one.exit

-- Rule 3: the functions have names (C99 6.4.2.1), and they differ.
pub record HasRightNames (functions : List ModelFunction) : Type 0 where
  pub names : All (λ one. IsName one.name) functions
  pub differ : AllPairs (λ d e. d.name ≢ e.name) functions

-- Rule 4: the two nodes of each edge are owned by one function.
pub record HasInnerEdges (g : Graph) : Type 0 where
  pub silent : All (λ e. HaveOneOwner g.functions g.nodes e.from e.to) g.silent
  pub sys : All (λ e. HaveOneOwner g.functions g.nodes e.from e.to) g.sys
  pub calls : All (λ c. HaveOneOwner g.functions g.nodes c.from c.to) g.calls

-- Rule 5: there is a function; the start and the candidates are functions.
pub record HasKnownFunctions (g : Graph) : Type 0 where
  pub some : 1 ≤ length g.functions
  pub start : g.start < length g.functions
  pub candidates : All (λ c. All (λ f. f < length g.functions) c.candidates) g.calls

-- Rule 6: no silent edge, no system-call edge, no site and no candidate of a call stands twice.
pub record HasNoRepeats (g : Graph) : Type 0 where
  pub silent : AllPairs (λ d e. d ≢ e) g.silent
  pub sys : AllPairs (λ d e. d ≢ e) g.sys
  pub sites : AllPairs (λ c d. c.site ≢ d.site) g.calls
  pub candidates : All (λ c. AllPairs (λ f h. f ≢ h) c.candidates) g.calls

-- Rule 7: each pattern is right for its system call.
abbrev pub HasRightPatterns : Graph → Type 0
HasRightPatterns g = All (λ e. IsRight e.name e.args) g.sys

-- the edges, and the candidates of each call, stand in order
pub record IsInOrder (g : Graph) : Type 0 where
  pub silent : StrictlyRise silent_order g.silent
  pub sys : StrictlyRise sys_order g.sys
  pub calls : StrictlyRise site_order g.calls
  pub candidates : All (λ c. StrictlyRise nat_cmp c.candidates) g.calls

-- the rules but the sixth, which the order implies
pub record IsValid (g : Graph) : Type 0 where
  pub entries : HasRightEntries g.functions g.nodes
  pub exits : HasOwnExits g.functions g.nodes
  pub names : HasRightNames g.functions
  pub edges : HasInnerEdges g
  pub functions : HasKnownFunctions g
  pub patterns : HasRightPatterns g
  pub order : IsInOrder g

-- the seven rules
pub record KeepsRules (g : Graph) : Type 0 where
  pub entries : HasRightEntries g.functions g.nodes
  pub exits : HasOwnExits g.functions g.nodes
  pub names : HasRightNames g.functions
  pub edges : HasInnerEdges g
  pub functions : HasKnownFunctions g
  pub repeats : HasNoRepeats g
  pub patterns : HasRightPatterns g

-- the rule with the number k is broken, and those with lower numbers hold
pub data IsLeastBroken (g : Graph) (k : ℕ) : Type 0 where
  entries : k ≡ 1 → (HasRightEntries g.functions g.nodes → ⊥) → IsLeastBroken g k
  exits : k ≡ 2 → HasRightEntries g.functions g.nodes → (HasOwnExits g.functions g.nodes → ⊥) → IsLeastBroken g k
  names : k ≡ 3 → HasRightEntries g.functions g.nodes → HasOwnExits g.functions g.nodes → (HasRightNames g.functions → ⊥) → IsLeastBroken g k
  edges : k ≡ 4 → HasRightEntries g.functions g.nodes → HasOwnExits g.functions g.nodes → HasRightNames g.functions → (HasInnerEdges g → ⊥) → IsLeastBroken g k
  functions : k ≡ 5 → HasRightEntries g.functions g.nodes → HasOwnExits g.functions g.nodes → HasRightNames g.functions → HasInnerEdges g → (HasKnownFunctions g → ⊥) → IsLeastBroken g k
  repeats : k ≡ 6 → HasRightEntries g.functions g.nodes → HasOwnExits g.functions g.nodes → HasRightNames g.functions → HasInnerEdges g → HasKnownFunctions g → (HasNoRepeats g → ⊥) → IsLeastBroken g k
  patterns : k ≡ 7 → HasRightEntries g.functions g.nodes → HasOwnExits g.functions g.nodes → HasRightNames g.functions → HasInnerEdges g → HasKnownFunctions g → HasNoRepeats g → (HasRightPatterns g → ⊥) → IsLeastBroken g k
