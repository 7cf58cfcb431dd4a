-- For private contracts and proofs alone: the parts of an inlined model.
use Rattle.std.specs.Prelude.{◌≡◌, ◌-◌, ℕ, List, [], ◌∷◌, Some, slice_get}
use Rattle.flow_model.specs.declared.records.ModelFunction.{ModelFunction}
use Rattle.flow_model.specs.declared.records.SilentEdge.{SilentEdge}
use Rattle.flow_model.specs.declared.records.SysEdge.{SysEdge}
use Rattle.flow_model.specs.Graph.{Graph}

-- the function has the start's name, and begins at node 0
pub record IsOnly (g : Graph) (one : ModelFunction) : Type 0 where
  pub function : ModelFunction
  pub is_start : slice_get g.functions g.start ≡ Some function
  pub is : one ≡ record { name = function.name; entry = 0; exit = function.exit - function.entry }

-- the model of these parts
abbrev pub made_of : ℕ → ModelFunction → List SilentEdge → List SysEdge → Graph
made_of nodes one silent sys = record { nodes = nodes; start = 0; functions = one ∷ []; silent = silent; sys = sys; calls = [] }
