use Rattle.std.proofs.Common.{sym, subst}
use Rattle.hex.specs.Hex.{IsBytes}
use Rattle.trace_file.specs.EventText.{HasBytes}
use Rattle.trace_file.proofs.event_writing.push_argument.Goals as goal

pub returns-in-Bytes-clause-are_bytes : goal.returns-in-Bytes-clause-are_bytes
returns-in-Bytes-clause-are_bytes c = subst HasBytes (sym c.in-Bytes.is) (subst IsBytes c.as_slice.ensures c.push_held.ensures.are_bytes)
