use Rattle.std.proofs.Common.{◌≡◌, map, take}
use Rattle.c_tree.specs.View.{program_of}
use Rattle.c_meaning.specs.CallGraph.{callees}
use Rattle.c_meaning.specs.Mentions.{Through}
use Rattle.flow_graph.specs.Types.{types_at, items_of}
use Rattle.flow_graph.proofs.types.lists_of.Given as goal

abbrev pub invariant-loop-t : goal.invariant-loop-t
invariant-loop-t l = items_of l.lists.items ≡ map (λ t. callees (program_of l.program) (Through t)) (types_at (take l.t-index l.types))
