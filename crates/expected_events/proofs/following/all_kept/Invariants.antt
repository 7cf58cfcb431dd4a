use Rattle.std.proofs.Common.{ℕ, List, ◌++◌, take}
use Rattle.dm_base.specs.declared.event.Event.{Event}
use Rattle.flow_model.specs.Verdict.{IsAccepted}
use Rattle.report.specs.Trials.{KeepsPool}
use Rattle.expected_events.proofs.following.all_kept.Given as goal

-- the events before this one were kept
abbrev pub invariant-loop-event : goal.invariant-loop-event
invariant-loop-event g l = record {
  frame : KeepsPool g.M.Monitor.is_pool g.M.Monitor.stands g.M.Monitor.noted l.model l.fn.pool l.pool;
  stands : (k : ℕ) (h : List Event) → g.M.Monitor.stands l.fn.monitor l.fn.pool l.model k h → g.M.Monitor.stands l.monitor l.pool l.model k (h ++ take l.event-index l.events);
  accepted : (k : ℕ) (h : List Event) → g.M.Monitor.stands l.fn.monitor l.fn.pool l.model k h → IsAccepted g.M.Monitor.WHICH l.model k h → IsAccepted g.M.Monitor.WHICH l.model k (h ++ take l.event-index l.events);
}
