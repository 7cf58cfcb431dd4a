-- For private contracts and proofs alone: how far a trace was followed.
use Rattle.std.specs.Prelude.{◌≡◌, ℕ, ◌≤◌, List, length, take, slice_get}
use Rattle.dm_base.specs.declared.event.Event.{Event}
use Rattle.dm_base.specs.declared.verdict.Step.{Step}
use Rattle.dm_base.specs.declared.verdict.Step.TheVariants as steps
use Rattle.dm_base.specs.declared.verdict.Verdict.{Verdict}
use Rattle.dm_base.specs.declared.verdict.Verdict.TheVariants.{Accepted, Rejected, Bound}
use Rattle.flow_model.specs.declared.which.Which.{Which}
use Rattle.flow_model.specs.Graph.{Graph}
use Rattle.flow_model.specs.Verdict.{IsAccepted, IsVerdict}
use Rattle.report.specs.VerdictLine.{IsGiven, event_at}
use Rattle.expected_events.specs.Kept.{kept_part}

-- the verdict with this number, where this was answered last
abbrev pub verdict_at : Step → ℕ → Verdict
verdict_at steps.Kept n = Accepted n
verdict_at steps.Rejected n = Rejected n
verdict_at steps.Bound n = Bound n

-- so many events at least are kept, and the monitor stands for them
pub record HasKept (Stands : List Event → Type 0) (which : Which) (g : Graph) (bound : ℕ) (t : List Event) (kept : ℕ) : Type 0 where
  pub within : kept ≤ length t
  pub stands : Stands (take kept t)
  pub accepted : IsAccepted which g bound (take kept t)

-- so many events were kept, which are just those that the verdict keeps, and the monitor stands for them
pub record IsFollowed (Stands : List Event → Type 0) (which : Which) (g : Graph) (bound : ℕ) (t : List Event) (kept : ℕ) (v : Verdict) : Type 0 where
  pub stands : Stands (take kept t)
  pub accepted : IsAccepted which g bound (take kept t)
  pub verdict : IsVerdict which g bound t v
  pub part : take kept t ≡ kept_part t v
  pub event : slice_get t kept ≡ event_at t v
  pub given : IsGiven v (slice_get t kept)
