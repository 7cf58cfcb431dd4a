use Rattle.std.proofs.Common.{◌≡◌, ◌++◌, take}
use Rattle.std.specs.Prelude.{flat_map}
use Rattle.c_tree.specs.View.{expr_of}
use Rattle.c_meaning.specs.Mentions.{mentions}
use Rattle.flow_graph.specs.Saying.{said}
use Rattle.flow_graph.proofs.saying.+expressions.Given as goal

abbrev pub invariant-add_expressions-loop-e : goal.invariant-add_expressions-loop-e
invariant-add_expressions-loop-e l = said l.into.items ≡ said l.fn.into.items ++ flat_map (λ e. mentions (expr_of e)) (take l.e-index l.es)
