use Rattle.std.proofs.Common.{arith}
use Rattle.trace_file.proofs.event_writing.push_held.Goals as goal

pub returns-clause-are_bytes : goal.returns-clause-are_bytes
returns-clause-are_bytes c i = omega (arith, c.type_inv.bytes i)
