-- What one monitor of a panel has come to.
use Rattle.std.specs.Prelude.{◌≡◌, ℕ, List, Option, None, Some, length}
use Rattle.dm_base.specs.declared.event.Event.{Event}
use Rattle.flow_model.specs.declared.which.Which.{Which}
use Rattle.flow_model.specs.Graph.{Graph}
use Rattle.flow_model.specs.Verdict.{IsVerdict, IsAccepted}
use Rattle.report.specs.VerdictLine.{IsGiven, event_at}
use Rattle.sys_table.specs.Table.{IsRecorded}
use Rattle.tool_monitors.specs.declared.judging.Refused.{Refused}

-- the verdict is one of refusal, of the trace at this event
pub record IsRefusedAt (which : Which) (g : Graph) (bound : ℕ) (t : List Event) (r : Refused) : Type 0 where
  pub verdict : IsVerdict which g bound t r.verdict
  pub given : IsGiven r.verdict (Some r.event)
  pub event : event_at t r.verdict ≡ Some r.event
  pub recorded : IsRecorded r.event

-- so many events were kept, and the monitor stands for them
pub record IsKeptWhole (Stands : Type 0) (which : Which) (g : Graph) (bound : ℕ) (t : List Event) (kept : ℕ) : Type 0 where
  pub stands : Stands
  pub accepted : IsAccepted which g bound t
  pub count : kept ≡ length t

-- the trace was refused, or all of it was kept
abbrev pub HasComeTo : Type 0 → Which → Graph → ℕ → List Event → ℕ → Option Refused → Type 0
HasComeTo Stands which g bound t kept None = IsKeptWhole Stands which g bound t kept
HasComeTo Stands which g bound t kept (Some r) = IsRefusedAt which g bound t r

-- the monitor of a pool of this model, with no notes in it, has come to this
abbrev pub HasFollowed : Type 0 → Type 0 → Type 0 → Which → Graph → ℕ → List Event → ℕ → Option Refused → Type 0
HasFollowed Pool Noted Stands which g bound t kept refused = Pool × Noted × HasComeTo Stands which g bound t kept refused
