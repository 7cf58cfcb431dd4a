-- What of a history is kept and what is refused.
use Rattle.std.specs.Prelude.{◌≡◌, ℕ, ◌+◌, ◌-◌, List, Option, None, Some, length, take, slice_get}
use Rattle.dm_base.specs.declared.event.Event.{Event}
use Rattle.dm_base.specs.declared.verdict.Verdict.{Verdict}
use Rattle.dm_base.specs.declared.verdict.Verdict.TheVariants.{Accepted, Rejected, Bound}
use Rattle.circular_buffer.specs.Buffer.{buffer, keep_last}
use Rattle.flow_model.specs.declared.which.Which.{Which}
use Rattle.flow_model.specs.Graph.{Graph}
use Rattle.flow_model.specs.Verdict.{IsVerdict, IsAccepted}
use Rattle.watch.specs.declared.past.Past.{Past}
use Rattle.watch.specs.declared.past.Refusal.{Refusal}

-- the events of the history that were kept: those before the one at which it was refused
abbrev pub kept_events : Verdict → List Event → List Event
kept_events (Accepted n) h = h
kept_events (Rejected k) h = take (k - 1) h
kept_events (Bound k) h = take (k - 1) h

-- the last eight kept events, or all where there are fewer
abbrev pub last_kept : Verdict → List Event → List Event
last_kept verdict h = keep_last 8 (kept_events verdict h)

-- the event at which the history was refused; events count from 1
abbrev pub refused_event : Verdict → List Event → Option Event
refused_event (Accepted n) h = None
refused_event (Rejected k) h = slice_get h (k - 1)
refused_event (Bound k) h = slice_get h (k - 1)

-- the verdict refuses the history at the k-th event
abbrev pub IsRefusalAt : Verdict → ℕ → Type 0
IsRefusalAt (Accepted n) k = ⊥
IsRefusalAt (Rejected n) k = n ≡ k
IsRefusalAt (Bound n) k = n ≡ k

-- the whole history was kept
pub record IsKeptWhole (which : Which) (g : Graph) (bound : ℕ) (h : List Event) (kept : ℕ) : Type 0 where
  pub accepted : IsAccepted which g bound h
  pub count : kept ≡ length h

-- the history was refused after so many kept events
pub record IsRefused (which : Which) (g : Graph) (bound : ℕ) (h : List Event) (kept : ℕ) (r : Refusal) : Type 0 where
  pub verdict : IsVerdict which g bound h r.verdict
  pub place : IsRefusalAt r.verdict (kept + 1)
  pub event : slice_get h kept ≡ Some r.event

-- the history was kept whole or refused
abbrev pub HasCome : Which → Graph → ℕ → List Event → ℕ → Option Refusal → Type 0
HasCome which g bound h kept None = IsKeptWhole which g bound h kept
HasCome which g bound h kept (Some r) = IsRefused which g bound h kept r

-- what is still at hand of the history
pub record IsPast (which : Which) (g : Graph) (bound : ℕ) (h : List Event) (past : Past) : Type 0 where
  pub come : HasCome which g bound h past.kept past.refusal
  pub window : past.window ≡ buffer (keep_last 8 (take past.kept h)) 8
