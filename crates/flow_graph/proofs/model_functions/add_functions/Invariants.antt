use Rattle.std.proofs.Common.{◌≡◌, drop}
use Rattle.c_tree.specs.View.{program_of}
use Rattle.c_meaning.specs.ShapeOf.{names_of_functions}
use Rattle.flow_graph.specs.View.{shapes_in}
use Rattle.c_meaning.specs.GraphOf.{functions_from, nodes_from}
use Rattle.flow_graph.proofs.RecordLemmas.{with_functions}
use Rattle.flow_graph.proofs.model_functions.add_functions.Given as goal

abbrev pub invariant-loop-i : goal.invariant-loop-i
invariant-loop-i l = record {
  made : with_functions l.builder (functions_from l.entry (drop l.i (names_of_functions (program_of l.program))) (shapes_in (drop l.i l.shapes))) ≡ with_functions l.fn.builder (functions_from 0 (names_of_functions (program_of l.program)) (shapes_in l.shapes));
  nodes : nodes_from l.entry (shapes_in (drop l.i l.shapes)) ≡ nodes_from 0 (shapes_in l.shapes);
}
