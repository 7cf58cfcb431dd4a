use Rattle.std.proofs.Common.{◌↔◌, ℕ, ◌<◌, Contains}
use Rattle.std.specs.Ordering.{nat_cmp}
use Rattle.flow_model.specs.Order.{StrictlyRise}
use Rattle.expected_events.specs.Marked.{OwnsOne}
use Rattle.expected_events.proofs.finding.functions_at.Given as goal

abbrev pub invariant-loop-function : goal.invariant-loop-function
invariant-loop-function l = record {
  exact : (f : ℕ) → Contains l.functions.items f ↔ ((f < l.function) × OwnsOne l.model l.at f);
  rise : StrictlyRise nat_cmp l.functions.items;
}
