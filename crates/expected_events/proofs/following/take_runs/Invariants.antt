use Rattle.std.proofs.Common.{ℕ, ◌-◌, ◌≤◌, [], length}
use Rattle.expected_events.specs.Following.{HasKept}
use Rattle.expected_events.proofs.following.take_runs.Given as goal

-- the runs before this one were kept
abbrev pub invariant-loop-kept : goal.invariant-loop-kept
invariant-loop-kept g l = record {
  pool : g.M.Monitor.is_pool l.pool l.model;
  notes : g.M.Monitor.noted l.pool l.model [];
  within : l.kept ≤ length l.events;
  kept : (k : ℕ) → HasKept (g.M.Monitor.stands l.fn.monitor l.fn.pool l.model k) g.M.Monitor.WHICH l.model k l.events 0 → HasKept (g.M.Monitor.stands l.monitor l.pool l.model k) g.M.Monitor.WHICH l.model k l.events l.kept;
}

abbrev pub decreases-loop-kept : goal.decreases-loop-kept
decreases-loop-kept g l = length l.events - l.kept
