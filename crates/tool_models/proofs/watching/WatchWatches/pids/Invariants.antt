use Rattle.std.proofs.Common.{◌≡◌, map, take}
use Rattle.tool_models.proofs.watching.WatchWatches.pids.Given as goal

abbrev pub invariant-loop-told : goal.invariant-loop-told
invariant-loop-told g l = l.pids.items ≡ map (λ v. v.0) (take l.told-index l.told-items)
