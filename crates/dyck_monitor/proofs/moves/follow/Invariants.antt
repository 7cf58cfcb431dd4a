use Rattle.std.proofs.Common.{◌≤◌, ◌+◌, ◌-◌, length, take, eqb}
use Rattle.std.specs.Prelude.{filter}
use Rattle.std.specs.List.{list_any}
use Rattle.dyck_monitor.proofs.Following.{IsFollowed}
use Rattle.dyck_monitor.proofs.moves.follow.Given as goal

abbrev pub invariant-loop-node : goal.invariant-loop-node
invariant-loop-node g l = record {
  followed : IsFollowed l.model l.fn.pool l.pool l.done;
  counted : l.steps ≤ l.fn.steps + length (filter (λ e. list_any (eqb e.from) (take l.done l.pool.nodes)) l.model.silent);
  rise : l.fn.steps ≤ l.steps;
}

abbrev pub decreases-loop-node : goal.decreases-loop-node
decreases-loop-node g l = l.fn.pool.size - l.done
