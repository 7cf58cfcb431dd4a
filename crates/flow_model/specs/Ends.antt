-- For private contracts and proofs alone: at which node a function ends.
use Rattle.std.specs.Prelude.{◌≡◌, ℕ, List, Some, slice_get}
use Rattle.flow_model.specs.declared.records.ModelFunction.{ModelFunction}

-- the function f ends at the node
pub record EndsAt (functions : List ModelFunction) (f node : ℕ) : Type 0 where
  pub one : ModelFunction
  pub has : slice_get functions f ≡ Some one
  pub ends : one.exit ≡ node
