use Rattle.std.proofs.Common.{◌<◌, ◌≤◌, ◌+◌, ◌-◌, ltb, length}
use Rattle.std.specs.Prelude.{filter}
use Rattle.dm_sets.specs.Nodes.{Has}
use Rattle.dyck_monitor.specs.Adding.{Adds}
use Rattle.dyck_monitor.specs.Moves.{IsRead}
use Rattle.dyck_monitor.proofs.moves.read.Given as goal

abbrev pub invariant-loop-node : goal.invariant-loop-node
invariant-loop-node g l = record {
  adds : Adds (IsRead l.model (λ a. Has l.nodes a × (a < l.from)) l.event) l.fn.pool l.pool;
  within : l.from ≤ l.nodes.size;
  counted : l.steps ≤ l.fn.steps + length (filter (λ e. ltb e.from l.from) l.model.sys);
  rise : l.fn.steps ≤ l.steps;
}

abbrev pub decreases-loop-node : goal.decreases-loop-node
decreases-loop-node g l = l.nodes.size - l.from
