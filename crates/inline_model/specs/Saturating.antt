-- For private contracts and proofs alone: how the nodes within their functions are found.
use Rattle.std.specs.Prelude.{◌≡◌, ◌↔◌, ℕ, ℤ, List, Option, Some, Contains, take, slice_get, ◌≤◌, length}
use Rattle.dm_sets.specs.Nodes.{Nodes, Has}
use Rattle.flow_model.specs.declared.records.ModelFunction.{ModelFunction}
use Rattle.flow_model.specs.Call.{Call}
use Rattle.flow_model.specs.Found.{Found}
use Rattle.flow_model.specs.Graph.{Graph, HasSilent, HasSys, HasCall, HasFunction}
use Rattle.inline_model.specs.Within.{Within}

-- the node is within some function
abbrev pub IsWithin : Graph → ℕ → Type 0
IsWithin g a = (f : ℕ) × Within g f a

-- the exit of the function is in the set
pub record HasExit (g : Graph) (done : Nodes) (f : ℕ) : Type 0 where
  pub one : ModelFunction
  pub has : slice_get g.functions f ≡ Some one
  pub exit : Has done one.exit

-- the exit of a candidate of the call is in the set
abbrev pub MayPass : Graph → Nodes → Call → Type 0
MayPass g done c = (f : ℕ) × Contains c.candidates f × HasExit g done f

-- a system-call edge leads from a to b
abbrev pub CallsTo : Graph → ℕ → ℕ → Type 0
CallsTo g a b = (x : ℕ) × (p : List (Option ℤ)) × HasSys g a x p b

-- a call edge leads from a to b, and a candidate's exit is in the set
abbrev pub PassesTo : Graph → Nodes → ℕ → ℕ → Type 0
PassesTo g done a b = (c : Call) × Contains g.calls c × (c.from ≡ a) × MayPass g done c × (c.to ≡ b)

-- a call edge from a node of the set leads to b, and the function is a candidate
abbrev pub ReturnsTo : Graph → Nodes → ℕ → ℕ → Type 0
ReturnsTo g done f b = (c : Call) × Contains g.calls c × Contains c.candidates f × Has done c.from × (c.to ≡ b)

-- the same, where the function's exit is a
abbrev pub LeavesTo : Graph → Nodes → ℕ → ℕ → Type 0
LeavesTo g done a b = (f : ℕ) × (entry : ℕ) × HasFunction g f entry a × ReturnsTo g done f b

-- the node, with those of the set, leads to b
pub data LeadsTo (g : Graph) (done : Nodes) (node b : ℕ) : Type 0 where
  silent : HasSilent g node b → LeadsTo g done node b
  sys : CallsTo g node b → LeadsTo g done node b
  passes : PassesTo g done node b → LeadsTo g done node b
  leaves : LeavesTo g done node b → LeadsTo g done node b

-- the first i of the nodes that were found have had their turn, and are those of the set
pub record IsSaturating (g : Graph) (found : Found) (done : Nodes) (i : ℕ) : Type 0 where
  pub size : found.size ≡ g.nodes
  pub room : done.size ≡ g.nodes
  pub within : i ≤ length found.nodes
  pub sound : (a : ℕ) → Contains found.nodes a → IsWithin g a
  pub entries : (f : ℕ) (entry exit : ℕ) → HasFunction g f entry exit → Contains found.nodes entry
  pub done_is : (a : ℕ) → Has done a ↔ Contains (take i found.nodes) a
  pub silent : (a b : ℕ) → Contains (take i found.nodes) a → HasSilent g a b → Contains found.nodes b
  pub sys : (a b : ℕ) → Contains (take i found.nodes) a → CallsTo g a b → Contains found.nodes b
  pub passes : (a s b f entry exit : ℕ) → Contains (take i found.nodes) a → HasCall g a s b f → HasFunction g f entry exit → Contains (take i found.nodes) exit → Contains found.nodes b
