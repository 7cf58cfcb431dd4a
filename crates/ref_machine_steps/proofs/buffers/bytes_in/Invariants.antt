use Rattle.std.proofs.Common.{◌≡◌, drop}
use Rattle.c_meaning.specs.SystemCalls.{bytes_in}
use Rattle.ref_machine_steps.proofs.BufferLemmas.{onto}
use Rattle.ref_machine_steps.proofs.buffers.bytes_in.Given as goal

abbrev pub invariant-loop-cell : goal.invariant-loop-cell
invariant-loop-cell l = bytes_in l.cells ≡ onto l.bytes.items (bytes_in (drop l.cell-index l.cells))
