use Rattle.std.proofs.Common.{◌≡◌, map, drop}
use Rattle.c_tree.specs.View.{program_of}
use Rattle.c_meaning.specs.ShapeOf.{candidate_places}
use Rattle.flow_graph.specs.Places.{call_of}
use Rattle.flow_graph.proofs.RecordLemmas.{with_calls}
use Rattle.flow_graph.proofs.candidates.add_calls.Given as goal

abbrev pub invariant-loop-i : goal.invariant-loop-i
invariant-loop-i l = with_calls l.builder (map (call_of (candidate_places (program_of l.program))) (drop l.i l.edges)) ≡ with_calls l.fn.builder (map (call_of (candidate_places (program_of l.program))) l.edges)
