use Rattle.std.proofs.Common.{ℕ, ◌<◌, Contains}
use Rattle.stack_automaton.proofs.resolve.are_all_known.Given as goal

abbrev pub invariant-loop-place : goal.invariant-loop-place
invariant-loop-place l = (i : ℕ) → i < l.place → Contains l.known.keys i
