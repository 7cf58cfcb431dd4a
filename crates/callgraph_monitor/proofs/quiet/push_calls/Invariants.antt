use Rattle.std.proofs.Common.{◌≤◌, ◌+◌, length, sum_by, take}
use Rattle.callgraph_monitor.specs.Ahead.{Enters}
use Rattle.flow_model.specs.Growth.{Pushes, HasOne}
use Rattle.callgraph_monitor.specs.Visits.{calls_from}
use Rattle.callgraph_monitor.proofs.quiet.push_calls.Given as goal

abbrev pub invariant-loop-site : goal.invariant-loop-site
invariant-loop-site l = record {
  added : Pushes l.fn.ends.items l.ends.items (HasOne (Enters l.model) (take l.site-index (calls_from l.model l.node)));
  few : length l.ends.items ≤ length l.fn.ends.items + sum_by (λ c. 1 + length c.candidates) (take l.site-index (calls_from l.model l.node));
}
