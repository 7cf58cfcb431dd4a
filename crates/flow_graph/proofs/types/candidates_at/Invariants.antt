use Rattle.std.proofs.Common.{◌≡◌, ◌&&◌, filter}
use Rattle.std.specs.List.{range_with_len}
use Rattle.c_tree.specs.Functions.{value_type}
use Rattle.c_tree.specs.Tree.{pointer}
use Rattle.c_tree.specs.View.{ctype_of, program_of}
use Rattle.c_meaning.specs.CallGraph.{is_taken, is_typed}
use Rattle.flow_graph.proofs.types.candidates_at.Given as goal

abbrev pub invariant-loop-f : goal.invariant-loop-f
invariant-loop-f l =
    l.found.items ≡ filter (λ f. is_taken (program_of l.program) f && is_typed (pointer (ctype_of l.target)) (value_type (program_of l.program) f)) (range_with_len 0 l.f)
