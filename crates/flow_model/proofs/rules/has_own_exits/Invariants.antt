use Rattle.std.proofs.Common.{◌≡◌, ℕ, ◌<◌, Some, slice_get}
use Rattle.flow_model.specs.declared.records.ModelFunction.{ModelFunction}
use Rattle.flow_model.specs.Graph.{Owns}
use Rattle.flow_model.proofs.rules.has_own_exits.Given as goal

abbrev pub invariant-loop-i : goal.invariant-loop-i
invariant-loop-i l = (f : ℕ) (one : ModelFunction) → f < l.i → slice_get l.functions f ≡ Some one → Owns l.functions l.nodes f one.exit
