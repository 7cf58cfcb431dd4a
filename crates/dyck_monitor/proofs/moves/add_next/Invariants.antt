use Rattle.std.proofs.Common.{◌≡◌, ◌+◌, take}
use Rattle.dyck_monitor.specs.Adding.{Adds, IsOfOne}
use Rattle.dyck_monitor.proofs.moves.add_next.Given as goal

abbrev pub invariant-loop-edge : goal.invariant-loop-edge
invariant-loop-edge g l = record {
  adds : Adds (IsOfOne (take l.edge-index l.edge-items) (λ e b. e.to ≡ b)) l.fn.pool l.pool;
  counted : l.steps ≡ l.fn.steps + l.edge-index;
}
