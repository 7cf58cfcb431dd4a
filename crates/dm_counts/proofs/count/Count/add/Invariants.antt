use Rattle.std.proofs.Common.{◌≡◌, ◌+◌, length}
use Rattle.dm_counts.proofs.count.Count.add.Given as goal

abbrev pub invariant-loop : goal.invariant-loop
invariant-loop l = record {
  low : l.self-inside.low ≡ l.initial.self-inside.low;
  high : length l.self-inside.high.items ≡ length l.initial.self-inside.high.items + l.counter;
}
