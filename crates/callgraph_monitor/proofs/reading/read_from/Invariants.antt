use Rattle.std.proofs.Common.{◌≡◌, ◌+◌, take}
use Rattle.dm_base.specs.Fits.{Fits}
use Rattle.flow_model.specs.Growth.{Adds, HasOne}
use Rattle.callgraph_monitor.proofs.reading.read_from.Given as goal

abbrev pub invariant-loop-edge : goal.invariant-loop-edge
invariant-loop-edge g l = record {
  added : Adds l.fn.pool l.pool (HasOne (λ e b. Fits e.name e.args l.event × (e.to ≡ b)) (take l.edge-index l.edge-items));
  cost : l.steps ≡ l.fn.steps + l.edge-index;
}
