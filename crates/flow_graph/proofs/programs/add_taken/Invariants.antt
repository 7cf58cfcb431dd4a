use Rattle.std.proofs.Common.{◌≡◌, ◌+◌, ◌++◌, map, filter}
use Rattle.std.specs.List.{range_with_len}
use Rattle.c_tree.specs.Functions.{defined}
use Rattle.c_tree.specs.View.{program_of}
use Rattle.c_meaning.specs.CallGraph.{is_taken}
use Rattle.c_meaning.specs.ShapeOf.{any_call}
use Rattle.flow_graph.specs.View.{shapes_in}
use Rattle.flow_graph.proofs.programs.add_taken.Given as goal

abbrev pub invariant-loop-x : goal.invariant-loop-x
invariant-loop-x l = shapes_in l.into.items ≡ shapes_in l.fn.into.items ++ map any_call (filter (λ x. is_taken (program_of l.program) (defined (program_of l.program) + x)) (range_with_len 0 l.x))
