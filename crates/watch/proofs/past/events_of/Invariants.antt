use Rattle.std.proofs.Common.{◌≡◌, ◌++◌}
use Rattle.watch.proofs.past.events_of.Given as goal

abbrev pub invariant-loop-event : goal.invariant-loop-event
invariant-loop-event l = l.events.items ++ l.event-iterator ≡ l.window.items
