use Rattle.std.proofs.Common.{[], take}
use Rattle.dm_base.specs.Adding.{Adds, Has}
use Rattle.expected_events.specs.Marked.{IsCalledBy}
use Rattle.expected_events.proofs.called.gathered.Given as goal

abbrev pub invariant-loop-edge : goal.invariant-loop-edge
invariant-loop-edge l = Adds [] l.calls.items (λ c. Has (IsCalledBy l.at c) (take l.edge-index l.edges))
