use Rattle.std.proofs.Common.{◌≡◌, ◌+◌, length, take}
use Rattle.flow_model.specs.Growth.{Pushes, HasOne}
use Rattle.callgraph_monitor.proofs.quiet.push_silent.Given as goal

abbrev pub invariant-loop-edge : goal.invariant-loop-edge
invariant-loop-edge l = record {
  added : Pushes l.fn.ends.items l.ends.items (HasOne (λ e b. e.to ≡ b) (take l.edge-index l.edge-items));
  few : length l.ends.items ≡ length l.fn.ends.items + l.edge-index;
}
