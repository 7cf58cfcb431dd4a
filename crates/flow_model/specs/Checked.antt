-- For private contracts and proofs alone: the parts in which the rules of a model are checked.
use Rattle.flow_model.specs.declared.builder.FinishError.{FinishError}
use Rattle.flow_model.specs.declared.builder.FinishError.TheVariants.{OutOfMemory, Invalid}
use Rattle.flow_model.specs.Graph.{Graph}
use Rattle.flow_model.specs.Rules.{HasRightEntries, HasOwnExits, HasRightNames, HasInnerEdges, HasKnownFunctions, IsLeastBroken}

-- the first five rules
pub record KeepsFirstFive (g : Graph) : Type 0 where
  pub entries : HasRightEntries g.functions g.nodes
  pub exits : HasOwnExits g.functions g.nodes
  pub names : HasRightNames g.functions
  pub edges : HasInnerEdges g
  pub functions : HasKnownFunctions g

-- an error that is no want of memory names the least broken rule
abbrev pub IsCause : Graph → FinishError → Type 0
IsCause g OutOfMemory = Unit {0}
IsCause g (Invalid k) = IsLeastBroken g k
