-- The events of a trace that a monitor keeps, and an event that is kept next.
use Rattle.std.specs.Prelude.{ℕ, ◌-◌, ℤ, List, [], ◌∷◌, ◌++◌, Option, take}
use Rattle.dm_base.specs.declared.event.Event.{Event}
use Rattle.dm_base.specs.declared.verdict.Verdict.{Verdict}
use Rattle.dm_base.specs.declared.verdict.Verdict.TheVariants.{Accepted, Rejected, Bound}
use Rattle.dm_base.specs.Fits.{Fits}
use Rattle.flow_model.specs.declared.which.Which.{Which}
use Rattle.flow_model.specs.Graph.{Graph, HasSys}
use Rattle.flow_model.specs.Verdict.{IsAccepted}
use Rattle.report.specs.Precision.{IsCall}
use Rattle.expected_events.specs.Next.{MayStand}

-- the events that are kept: all of them, or those before the one at which the trace is refused; events count from 1
abbrev pub kept_part : List Event → Verdict → List Event
kept_part t (Accepted n) = t
kept_part t (Rejected k) = take (k - 1) t
kept_part t (Bound k) = take (k - 1) t

-- an event such as a trace records is kept next, which has this name and fits this pattern, and is read along an edge of them
-- from where a reading of the trace may end
pub record IsKeptNext (which : Which) (g : Graph) (bound : ℕ) (t : List Event) (x : ℕ) (p : List (Option ℤ)) : Type 0 where
  pub event : Event
  pub call : IsCall x event
  pub fits : Fits x p event
  pub from : ℕ
  pub to : ℕ
  pub stands : MayStand which g t from
  pub edge : HasSys g from x p to
  pub accepted : IsAccepted which g bound (t ++ event ∷ [])
