use Rattle.std.proofs.Common.{ℕ, ◌+◌}
use Rattle.c_tree.specs.View.{program_of}
use Rattle.c_values.specs.Seen.{seen}
use Rattle.ref_machine_frames.specs.Work.{of_bit, work}
use Rattle.ref_machine.specs.Standing.{SameLeft}
use Rattle.ref_machine.proofs.stepping.freely.Given as goal

abbrev pub invariant-steps : goal.invariant-steps
invariant-steps l =
    (entries turns : ℕ) → SameLeft (program_of l.program) (record { here = l.fn.here; memory = seen l.fn.memory; entries = entries; turns = turns; now = l.fn.now; todo = l.fn.todo.items }) (record { here = l.here; memory = seen l.memory; entries = entries; turns = turns; now = l.next; todo = l.todo.items })

abbrev pub decreases-steps : goal.decreases-steps
decreases-steps l = work l.next l.todo.items + of_bit l.next
