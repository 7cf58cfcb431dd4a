-- The depth of a model from what its search gave.
use Rattle.std.proofs.Common.{ℕ, Ok, Err}
use Rattle.std.specs.Prelude.{Result, IfOk}
use Rattle.dm_base.specs.declared.memory.OutOfMemory.{OutOfMemory}
use Rattle.flow_model.specs.Graph.{Graph}
use Rattle.flow_model.specs.Rules.{IsValid}
use Rattle.inline_model.specs.Chains.{IsGreatest}
use Rattle.inline_model.proofs.ChainLemmas.{chain_from, from_chain}
use Rattle.inline_model.proofs.DepthLemmas.{greatest_depth, no_greatest_depth}
use Rattle.inline_model.specs.declared.depths.Depth.{Depth}
use Rattle.inline_model.specs.declared.depths.Depth.TheVariants.{Greatest, Unbounded}
use Rattle.inline_model.specs.Depth.{HasLength, HasDepth}
use Rattle.inline_model.specs.Searching.{IsHeight}

pub greatest_from_height : (g : Graph) → IsValid g → (n : ℕ) → IsHeight g g.start n → IsGreatest g n
greatest_from_height g valid n height = record {
  some = (height.some.0, chain_from height.some.1, height.some.2);
  all = λ sites chain. height.all sites (from_chain valid chain);
}

words : (g : Graph) → IsValid g → (d : Depth) → HasLength g d → HasDepth g d
words g valid (Greatest n) length = greatest_depth g valid n length
words g valid (Unbounded first cycle) length = no_greatest_depth g valid length

pub words_of : (g : Graph) → IsValid g → (r : Result Depth OutOfMemory) → IfOk r (HasLength g) → IfOk r (HasDepth g)
words_of g valid (Ok d) length = words g valid d length
words_of g valid (Err e) length = tt
