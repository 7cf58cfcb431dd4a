-- What the depth of a model is.
use Rattle.flow_model.specs.Graph.{Graph}
use Rattle.inline_model.specs.declared.depths.Depth.{Depth}
use Rattle.inline_model.specs.declared.depths.Depth.TheVariants.{Greatest, Unbounded}
use Rattle.inline_model.specs.Chains.{IsGreatest, HasNoGreatest, IsRecursion}
use Rattle.inline_model.specs.Depths.{IsGreatestDepth, HasNoGreatestDepth}

-- the longest chains have this length, or chains have no greatest length
abbrev pub HasLength : Graph → Depth → Type 0
HasLength g (Greatest n) = IsGreatest g n
HasLength g (Unbounded first cycle) = HasNoGreatest g

-- where chains have no greatest length, the sites are a chain that ends in a cycle
abbrev pub HasCycle : Graph → Depth → Type 0
HasCycle g (Greatest n) = Unit {0}
HasCycle g (Unbounded first cycle) = IsRecursion g first cycle

-- the words of the Dyck model have at most this depth, or for each number some word is deeper
abbrev pub HasDepth : Graph → Depth → Type 0
HasDepth g (Greatest n) = IsGreatestDepth g n
HasDepth g (Unbounded first cycle) = HasNoGreatestDepth g
