-- A model as four lists of records, and what is an edge of it.
use Rattle.std.specs.Prelude.{◌≡◌, ℕ, ℤ, ◌+◌, ◌<◌, ◌≤◌, List, Option, Some, Contains, slice_get, option_map, unwrap_or}
use Rattle.flow_model.specs.declared.records.ModelFunction.{ModelFunction}
use Rattle.flow_model.specs.declared.records.SilentEdge.{SilentEdge}
use Rattle.flow_model.specs.declared.records.SysEdge.{SysEdge}
use Rattle.flow_model.specs.Call.{Call}

-- nodes are 0 to below `nodes`, functions go by their places in the list, and `start` is the function that a run enters
pub record Graph : Type 0 where
  pub nodes : ℕ
  pub start : ℕ
  pub functions : List ModelFunction
  pub silent : List SilentEdge
  pub sys : List SysEdge
  pub calls : List Call

-- there is a silent edge from a to b
abbrev pub HasSilent : Graph → ℕ → ℕ → Type 0
HasSilent g a b = Contains g.silent (record { from = a; to = b })

-- there is an edge from a to b for the system call x whose arguments fit the pattern p
abbrev pub HasSys : Graph → ℕ → ℕ → List (Option ℤ) → ℕ → Type 0
HasSys g a x p b = Contains g.sys (record { from = a; name = x; to = b; args = p })

-- there is a call edge from a to b with the site s, and f is one of its candidates
pub record HasCall (g : Graph) (a s b f : ℕ) : Type 0 where
  pub call : Call
  pub has : Contains g.calls call
  pub from : call.from ≡ a
  pub site : call.site ≡ s
  pub to : call.to ≡ b
  pub candidate : Contains call.candidates f

-- the function f begins at the node entry and ends at the node exit
pub record HasFunction (g : Graph) (f entry exit : ℕ) : Type 0 where
  pub one : ModelFunction
  pub has : slice_get g.functions f ≡ Some one
  pub begins : one.entry ≡ entry
  pub ends : one.exit ≡ exit

-- the first node past those of the function f: the next function's entry, or the number of nodes after the last
abbrev pub end_of : List ModelFunction → ℕ → ℕ → ℕ
end_of functions nodes f = unwrap_or (option_map (λ one. one.entry) (slice_get functions (f + 1))) nodes

-- the node a is one of those of the function f
pub record Owns (functions : List ModelFunction) (nodes f a : ℕ) : Type 0 where
  pub one : ModelFunction
  pub has : slice_get functions f ≡ Some one
  pub from : one.entry ≤ a
  pub to : a < end_of functions nodes f

-- both nodes are owned by one function
pub record HaveOneOwner (functions : List ModelFunction) (nodes a b : ℕ) : Type 0 where
  pub owner : ℕ
  pub first : Owns functions nodes owner a
  pub second : Owns functions nodes owner b
