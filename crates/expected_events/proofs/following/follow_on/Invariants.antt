use Rattle.std.proofs.Common.{◌≡◌, ℕ, ◌+◌, []}
use Rattle.expected_events.specs.Following.{HasKept}
use Rattle.expected_events.proofs.following.follow_on.Given as goal

-- the events before this one were kept
abbrev pub invariant-loop-event : goal.invariant-loop-event
invariant-loop-event g l = record {
  pool : g.M.Monitor.is_pool l.pool l.model;
  notes : g.M.Monitor.noted l.pool l.model [];
  at : l.kept ≡ l.fn.kept + l.event-index;
  kept : (k : ℕ) → HasKept (g.M.Monitor.stands l.fn.monitor l.fn.pool l.model k) g.M.Monitor.WHICH l.model k l.events l.fn.kept → HasKept (g.M.Monitor.stands l.monitor l.pool l.model k) g.M.Monitor.WHICH l.model k l.events l.kept;
}
