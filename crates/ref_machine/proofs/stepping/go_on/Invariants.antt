use Rattle.std.proofs.Common.{◌≡◌, ◌≤◌, ◌+◌}
use Rattle.c_tree.specs.View.{program_of}
use Rattle.c_values.specs.Seen.{seen}
use Rattle.ref_machine_frames.specs.Work.{of_bit}
use Rattle.ref_machine.specs.Standing.{SameLeft}
use Rattle.ref_machine.proofs.stepping.go_on.Given as goal

abbrev pub invariant-turns : goal.invariant-turns
invariant-turns l = record {
  same : SameLeft (program_of l.program) (record { here = l.fn.here; memory = seen l.fn.memory; entries = l.fn.entries; turns = l.fn.turns; now = l.fn.now; todo = l.fn.todo.items }) (record { here = l.here; memory = seen l.memory; entries = l.entries; turns = l.turns; now = l.next; todo = l.todo.items });
  fewer : l.turns ≤ l.fn.turns;
  spent : l.entries + l.turns ≤ l.fn.entries + l.fn.turns;
  rests : of_bit l.next ≡ 1 → ⊥;
}

abbrev pub decreases-turns : goal.decreases-turns
decreases-turns l = l.turns
