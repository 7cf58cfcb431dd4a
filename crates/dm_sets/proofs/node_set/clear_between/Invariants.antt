use Rattle.std.proofs.Common.{◌≡◌, ℕ, ◌*◌, ◌<◌, ◌≤◌, length}
use Rattle.std.specs.Int.{div_ceil}
use Rattle.dm_sets.specs.Bits.{bit}
use Rattle.dm_sets.proofs.node_set.clear_between.Given as goal

abbrev pub invariant-loop-i : goal.invariant-loop-i
invariant-loop-i l = record {
  long : div_ceil l.end 64 ≤ length l.words;
  left : (k : ℕ) → bit l.words k ≡ 1 → (64 * l.i ≤ k) × (k < l.end);
}
