use Rattle.std.proofs.Common.{◌≡◌, drop}
use Rattle.c_values.specs.Seen.{seen}
use Rattle.c_meaning.specs.SystemCalls.{filled}
use Rattle.ref_machine_steps.proofs.records.fill_from.Given as goal

abbrev pub invariant-loop-byte : goal.invariant-loop-byte
invariant-loop-byte l = filled l.fn.buffer l.bytes (seen l.fn.memory) ≡ filled l.at (drop l.byte-index l.bytes) (seen l.memory)
