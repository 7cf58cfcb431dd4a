use Rattle.c_tree.specs.View.{program_of}
use Rattle.c_meaning.specs.CallGraph.{marked}
use Rattle.flow_graph.proofs.ProgramLemmas.{AreMarks}
use Rattle.flow_graph.proofs.marks.marks_of.Given as goal

abbrev pub invariant-loop-site : goal.invariant-loop-site
invariant-loop-site l = AreMarks (λ s. marked (program_of l.program) s) l.site l.marks.items
