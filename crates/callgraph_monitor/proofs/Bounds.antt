-- A step that reads nothing leads to a node of the model.
use Rattle.std.proofs.Common.{ℕ, ◌<◌, arith}
use Rattle.flow_model.specs.Graph.{Graph}
use Rattle.flow_model.specs.Language.{Quiet}
use Rattle.flow_model.specs.Language.Quiet.{silent, enter, leave}
use Rattle.flow_model.specs.Rules.{IsValid}
use Rattle.flow_model.proofs.NodeBounds.{entry_below}
use Rattle.flow_model.proofs.EdgeBounds.{silent_below, call_below}

module _ (g : Graph) (valid : IsValid g) where
  pub quiet_below : (a b : ℕ) → Quiet g a b → b < g.nodes
  quiet_below a b (silent has) = silent_below g valid (record { from = a; to = b }) has
  quiet_below a b (enter {f = f} call function) =
      omega (arith, entry_below g.functions g.nodes f function.one valid.entries function.has, function.begins)
  quiet_below a b (leave call function) = omega (arith, call_below g valid call.call call.has, call.to)
