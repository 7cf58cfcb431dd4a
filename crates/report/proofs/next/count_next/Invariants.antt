use Rattle.std.proofs.Common.{ℕ, ◌≤◌, List}
use Rattle.dm_base.specs.declared.event.Event.{Event}
use Rattle.report.specs.Precision.{IsNumberOf}
use Rattle.report.specs.Trials.{Comes, KeepsPool}
use Rattle.report.proofs.next.count_next.Given as goal

abbrev pub invariant-loop-number : goal.invariant-loop-number
invariant-loop-number g l = record {
  frame : KeepsPool g.M.Monitor.is_pool g.M.Monitor.stands g.M.Monitor.noted l.model l.fn.pool l.pool;
  number : (k : ℕ) (h : List Event) → g.M.Monitor.stands l.monitor l.fn.pool l.model k h → IsNumberOf (Comes g.M.Monitor.WHICH l.model k h l.trials) l.number l.count;
  few : l.count ≤ l.number;
}
