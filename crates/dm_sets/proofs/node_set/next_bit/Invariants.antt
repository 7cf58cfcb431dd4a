use Rattle.std.proofs.Common.{◌≡◌, ℕ, ◌+◌, ◌*◌, ◌<◌, ◌≤◌}
use Rattle.dm_sets.specs.Bits.{bit}
use Rattle.dm_sets.proofs.node_set.next_bit.Given as goal

abbrev pub invariant-loop-i : goal.invariant-loop-i
invariant-loop-i l = record {
  low : l.low < 64;
  from : l.from ≤ 64 * l.i + l.low;
  none : (j : ℕ) → l.from ≤ j → j < 64 * l.i + l.low → bit l.words j ≡ 0;
}
