-- For private contracts and proofs alone: how a list of edges grows.
use Rattle.std.specs.Prelude.{◌≡◌, ◌↔◌, ◌⊎◌, ◌<◌, ◌≤◌, ◌+◌, ◌-◌, ℕ, List, Contains, length}
use Rattle.flow_model.specs.declared.records.SilentEdge.{SilentEdge}
use Rattle.flow_model.specs.declared.records.SysEdge.{SysEdge}
use Rattle.flow_model.specs.Graph.{Graph, end_of}
use Rattle.inline_model.specs.Copies.{entry_of}
use Rattle.inline_model.specs.declared.copied.Copied.{Copied}
use Rattle.inline_model.specs.Drawn.{number_in}

-- the item is a copy of a function of the model, and its nodes have numbers below 200,000
pub record IsNumbered (g : Graph) (item : Copied) : Type 0 where
  pub known : item.function < length g.functions
  pub few : item.first + (end_of g.functions g.nodes item.function - entry_of g.functions item.function) ≤ 200000

-- just the items that have P were added
abbrev pub Adds : {X : Type 0} → List X → List X → (X → Type 0) → Type 0
Adds {X} old new P = (e : X) → Contains new e ↔ (Contains old e ⊎ P e)

-- one of the items has P with the other
abbrev pub HasOne : {X Y : Type 0} → (X → Y → Type 0) → List X → Y → Type 0
HasOne {X} P xs y = (x : X) × Contains xs x × P x y

-- one of the numbers from the first up to below the last has P with the other
abbrev pub HasNode : {Y : Type 0} → (ℕ → Y → Type 0) → ℕ → ℕ → Y → Type 0
HasNode P from to y = (a : ℕ) × (from ≤ a) × (a < to) × P a y

-- the edge as it is in the copy
pub record IsSilentIn (g : Graph) (item : Copied) (edge drawn : SilentEdge) : Type 0 where
  pub from : drawn.from ≡ number_in g item edge.from
  pub to : drawn.to ≡ number_in g item edge.to

pub record IsSysIn (g : Graph) (item : Copied) (edge drawn : SysEdge) : Type 0 where
  pub from : drawn.from ≡ number_in g item edge.from
  pub name : drawn.name ≡ edge.name
  pub to : drawn.to ≡ number_in g item edge.to
  pub args : drawn.args ≡ edge.args

-- an edge that leaves the node, as it is in the copy
abbrev pub LeavesSilent : Graph → Copied → ℕ → SilentEdge → Type 0
LeavesSilent g item node drawn = (edge : SilentEdge) × Contains g.silent edge × (edge.from ≡ node) × IsSilentIn g item edge drawn

abbrev pub LeavesSys : Graph → Copied → ℕ → SysEdge → Type 0
LeavesSys g item node drawn = (edge : SysEdge) × Contains g.sys edge × (edge.from ≡ node) × IsSysIn g item edge drawn
