use Rattle.std.proofs.Common.{◌≡◌, drop}
use Rattle.flow_graph.proofs.RecordLemmas.{with_sys}
use Rattle.flow_graph.proofs.records.add_sys.Given as goal

abbrev pub invariant-loop-i : goal.invariant-loop-i
invariant-loop-i l = with_sys l.builder (drop l.i l.edges) ≡ with_sys l.fn.builder l.edges
