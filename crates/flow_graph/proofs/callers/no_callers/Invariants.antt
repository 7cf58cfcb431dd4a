use Rattle.std.proofs.Common.{◌≡◌, length}
use Rattle.flow_graph.specs.Callers.{Link, HasCaller}
use Rattle.flow_graph.proofs.callers.no_callers.Given as goal

abbrev pub invariant-loop-i : goal.invariant-loop-i
invariant-loop-i l = record {
  many : length l.callers.items ≡ l._i;
  none : (e : Link) → HasCaller l.callers.items e → ⊥;
}
