use Rattle.std.proofs.Common.{◌-◌, ◌≤◌}
use Rattle.inline_model.specs.Copying.{IsCopying}
use Rattle.inline_model.proofs.copying.copies.Given as goal

abbrev pub invariant-loop-next : goal.invariant-loop-next
invariant-loop-next l = record {
  copying : IsCopying l.model l.copies.items l.stack l.count;
  few : l.count ≤ 200000;
}

abbrev pub decreases-loop-next : goal.decreases-loop-next
decreases-loop-next l = 200000 - l.count
