use Rattle.std.proofs.Common.{◌≡◌, drop}
use Rattle.flow_graph.proofs.RecordLemmas.{with_silent}
use Rattle.flow_graph.proofs.records.add_silent.Given as goal

abbrev pub invariant-loop-i : goal.invariant-loop-i
invariant-loop-i l = with_silent l.builder (drop l.i l.edges) ≡ with_silent l.fn.builder l.edges
