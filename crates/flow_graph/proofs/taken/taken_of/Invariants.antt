use Rattle.std.proofs.Common.{◌≡◌, ◌+◌, filter}
use Rattle.std.specs.List.{range_with_len}
use Rattle.c_tree.specs.Functions.{defined}
use Rattle.c_tree.specs.View.{program_of}
use Rattle.c_meaning.specs.CallGraph.{is_taken}
use Rattle.flow_graph.proofs.taken.taken_of.Given as goal

abbrev pub invariant-loop-x : goal.invariant-loop-x
invariant-loop-x l = l.taken.items ≡ filter (λ x. is_taken (program_of l.program) (defined (program_of l.program) + x)) (range_with_len 0 l.x)
