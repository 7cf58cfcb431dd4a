use Rattle.flow_graph.proofs.ArgumentLemmas.{AreKnown}
use Rattle.flow_graph.proofs.arguments.pattern_of.Given as goal

abbrev pub invariant-loop-i : goal.invariant-loop-i
invariant-loop-i l = AreKnown l.name l.kinds l.arguments l.i l.pattern
