-- For private contracts and proofs alone: who calls whom. The nodes are the functions by their numbers, and after them the types of the pointers that are called.
use Rattle.std.specs.Prelude.{◌≡◌, ◌⊎◌, ◌↔◌, ℕ, ◌+◌, ◌<◌, ◌≤◌, ◌^◌, nat_lt, if◌then◌else◌, List, length, take, Contains, Option, None, Some, slice_get, Vec}
use Rattle.std.specs.Global.{Global}
use Rattle.c_tree.specs.Tree.{CType, Function, Program}
use Rattle.c_tree.specs.Functions.{defined}
use Rattle.c_meaning.specs.Mentions.{Mention, Named, Calls, Direct, Through, mentions_of_function}
use Rattle.dm_base.specs.Adding.{Has}
use Rattle.flow_graph.specs.Types.{first_place}

-- a node calls another
pub record Link : Type 0 where
  pub by : ℕ
  pub to : ℕ

-- the list of the node's callers has the node
abbrev pub HasCaller : List (Vec ℕ Global) → Link → Type 0
HasCaller callers e = (v : Vec ℕ Global) × (slice_get callers e.to ≡ Some v) × Contains v.items e.by

-- the node that is called, where there are n functions; null calls have no node
abbrev pub node_called : List CType → ℕ → Mention → Option ℕ
node_called types n (Named f) = None
node_called types n (Calls s (Direct f)) = if nat_lt f n then Some f else None
node_called types n (Calls s (Through t)) = Some (n + first_place t types)

-- the mention stands in the body of f
abbrev pub IsCall : ℕ → List CType → ℕ → ℕ → Mention → Link → Type 0
IsCall size types n f m e = (e.by ≡ f) × (node_called types n m ≡ Some e.to) × (e.to < size)

abbrev pub IsCallIn : ℕ → List CType → ℕ → ℕ → List Mention → Link → Type 0
IsCallIn size types n f ms e = Has (λ m. IsCall size types n f m e) ms

-- the call stands in one of the first i functions
abbrev pub IsCallBelow : ℕ → List CType → ℕ → Program → ℕ → Link → Type 0
IsCallBelow size types n p i e =
    (f : ℕ) × (f < i) × (F : Function) × (slice_get p.functions f ≡ Some F) × IsCallIn size types n f (mentions_of_function F) e

-- a pointer may call a function
abbrev pub IsCandidate : ℕ → ℕ → ℕ → Link → Type 0
IsCandidate size by f e = (e.by ≡ by) × (e.to ≡ f) × (e.to < size)

-- a pointer of one of the first i types may call a function
abbrev pub IsCandidateBelow : ℕ → ℕ → List (List ℕ) → ℕ → Link → Type 0
IsCandidateBelow size n lists i e =
    (k : ℕ) × (k < i) × (fs : List ℕ) × (slice_get lists k ≡ Some fs) × Has (λ f. IsCandidate size (n + k) f e) fs

-- along the callers of nodes one node leads to another
pub data Leads (callers : List (Vec ℕ Global)) : ℕ → ℕ → Type 0 where
  here : {k : ℕ} → Leads callers k k
  on : {j k l : ℕ} → HasCaller callers (record { by = k; to = j }) → Leads callers k l → Leads callers j l

-- one of the nodes leads there
abbrev pub IsLedTo : List (Vec ℕ Global) → List ℕ → ℕ → Type 0
IsLedTo callers nodes k = (j : ℕ) × Contains nodes j × Leads callers j k

-- the callers of the first i nodes are found
pub record AreFollowed (callers : List (Vec ℕ Global)) (begin all : List ℕ) (i : ℕ) : Type 0 where
  pub kept : (k : ℕ) → Contains begin k → Contains all k
  pub sound : (k : ℕ) → Contains all k → IsLedTo callers begin k
  pub closed : (j k : ℕ) → Contains (take i all) j → HasCaller callers (record { by = k; to = j }) → Contains all k

-- the node is one of the 24 system calls, or calls lead from it to one
abbrev pub IsReaching : List (Vec ℕ Global) → ℕ → ℕ → Type 0
IsReaching callers first k = (j : ℕ) × (first ≤ j) × (j < first + 24) × Leads callers j k

-- each node has its callers: the functions whose bodies call it, and the pointers that may call it
pub record AreCallers (p : Program) (types : List CType) (lists : List (List ℕ)) (callers : List (Vec ℕ Global)) : Type 0 where
  pub few : length types < 2 ^ 63
  pub many : length callers ≡ defined p + 24 + length types
  pub are : (e : Link) → HasCaller callers e ↔ (IsCallBelow (defined p + 24 + length types) types (defined p + 24) p (defined p) e ⊎ IsCandidateBelow (defined p + 24 + length types) (defined p + 24) lists (length lists) e)

-- the nodes from which calls lead to a system call are found by the callers of each
abbrev pub AreReaching : Program → List CType → List (List ℕ) → List ℕ → Type 0
AreReaching p types lists found =
    (callers : List (Vec ℕ Global)) × AreCallers p types lists callers × ((k : ℕ) → Contains found k ↔ IsReaching callers (defined p) k)
