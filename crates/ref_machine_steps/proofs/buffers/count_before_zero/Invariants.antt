use Rattle.std.proofs.Common.{◌≡◌, take, drop}
use Rattle.c_meaning.specs.SystemCalls.{before_zero}
use Rattle.ref_machine_steps.proofs.BufferLemmas.{after_cells}
use Rattle.ref_machine_steps.proofs.buffers.count_before_zero.Given as goal

abbrev pub invariant-loop-i : goal.invariant-loop-i
invariant-loop-i l = before_zero l.cells ≡ after_cells (take l.i l.cells) (before_zero (drop l.i l.cells))
