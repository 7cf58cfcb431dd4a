use Rattle.std.proofs.Common.{[], take}
use Rattle.std.specs.Ordering.{nat_cmp}
use Rattle.flow_model.specs.Order.{StrictlyRise}
use Rattle.dm_base.specs.Adding.{Adds, Has as HasOne}
use Rattle.expected_events.specs.Marked.{IsOpenedBy}
use Rattle.expected_events.proofs.finding.opened_at.Given as goal

abbrev pub invariant-loop-call : goal.invariant-loop-call
invariant-loop-call l = record {
  added : Adds [] l.sites.items (λ s. HasOne (IsOpenedBy l.at s) (take l.call-index l.calls));
  rise : StrictlyRise nat_cmp l.sites.items;
}
