use Rattle.std.proofs.Common.{◌≡◌, ◌+◌, length, take}
use Rattle.callgraph_monitor.specs.Ahead.{BeginsAt}
use Rattle.flow_model.specs.Growth.{Pushes, HasOne}
use Rattle.callgraph_monitor.proofs.quiet.push_entries.Given as goal

abbrev pub invariant-loop-function : goal.invariant-loop-function
invariant-loop-function l = record {
  added : Pushes l.fn.ends.items l.ends.items (HasOne (BeginsAt l.model) (take l.function-index l.function-items));
  few : length l.ends.items ≡ length l.fn.ends.items + l.function-index;
}
