use Rattle.std.proofs.Common.{◌≡◌, ◌++◌, take}
use Rattle.std.specs.Prelude.{flat_map}
use Rattle.c_tree.specs.View.{expr_of}
use Rattle.c_meaning.specs.Mentions.{mentions}
use Rattle.flow_graph.specs.Saying.{said}
use Rattle.flow_graph.proofs.saying.add_inits.Given as goal

abbrev pub invariant-loop-init : goal.invariant-loop-init
invariant-loop-init l = said l.into.items ≡ said l.fn.into.items ++ flat_map (λ i. mentions (expr_of i.value)) (take l.init-index l.inits)
