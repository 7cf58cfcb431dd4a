use Rattle.std.proofs.Common.{◌≡◌, ◌+◌, take}
use Rattle.flow_model.specs.Growth.{Adds, HasOne}
use Rattle.callgraph_monitor.proofs.visiting.add_all.Given as goal

abbrev pub invariant-loop-end : goal.invariant-loop-end
invariant-loop-end g l = record {
  added : Adds l.fn.pool l.pool (HasOne (λ e b. e ≡ b) (take l.end-index l.ends));
  cost : l.steps ≡ l.fn.steps + l.end-index;
}
