use Rattle.std.proofs.Common.{◌≡◌, ◌+◌, length, take}
use Rattle.callgraph_monitor.specs.Ahead.{calls_of}
use Rattle.flow_model.specs.Growth.{Pushes, HasOne}
use Rattle.callgraph_monitor.proofs.quiet.push_callers.Given as goal

abbrev pub invariant-loop-site : goal.invariant-loop-site
invariant-loop-site l = record {
  added : Pushes l.fn.ends.items l.ends.items (HasOne (λ c b. c.to ≡ b) (take l.site-index (calls_of l.model l.function)));
  few : length l.ends.items ≡ length l.fn.ends.items + l.site-index;
}
