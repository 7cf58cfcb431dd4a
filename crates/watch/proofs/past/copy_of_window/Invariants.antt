use Rattle.std.proofs.Common.{◌≡◌, ◌≤◌, ◌++◌, length}
use Rattle.watch.proofs.past.copy_of_window.Given as goal

abbrev pub invariant-loop-event : goal.invariant-loop-event
invariant-loop-event l = (l.copied.items ++ l.event-iterator ≡ l.window.items) × (l.copied.capacity ≡ 8) × (length l.window.items ≤ 8)
