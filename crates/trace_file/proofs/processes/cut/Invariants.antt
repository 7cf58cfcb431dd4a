use Rattle.std.proofs.Common.{◌≡◌, length, take}
use Rattle.trace_file.specs.Processes.{AreFound}
use Rattle.trace_file.proofs.processes.cut.Given as goal

abbrev pub invariant-loop-list : goal.invariant-loop-list
invariant-loop-list l = AreFound l.list.items l.found.keys × (take l.len l.list.items ≡ take l.len l.fn.list.items)

abbrev pub decreases-loop-list : goal.decreases-loop-list
decreases-loop-list l = length l.list.items
