-- The verdicts of several monitors on one trace, and what is written of them.
use Rattle.std.specs.Prelude.{◌≡◌, ℕ, List, [], ◌∷◌, ◌++◌, Some, slice_get}
use Rattle.std.specs.List.{AllZip}
use Rattle.dm_base.specs.declared.event.Event.{Event}
use Rattle.dm_base.specs.declared.verdict.Status.{Status}
use Rattle.dm_base.specs.declared.verdict.Status.TheVariants as statuses
use Rattle.dm_base.specs.declared.verdict.Verdict.{Verdict}
use Rattle.dm_base.specs.declared.verdict.Verdict.TheVariants.{Accepted, Rejected, Bound}
use Rattle.flow_model.specs.declared.which.Which.{Which}
use Rattle.flow_model.specs.declared.which.Which.TheVariants.{Callgraph, Stack, Dyck}
use Rattle.flow_model.specs.Graph.{Graph}
use Rattle.flow_model.specs.Verdict.{IsVerdict}
use Rattle.report.specs.VerdictLine.{verdict_text, event_at}

-- the status of one verdict
abbrev pub status_of : Verdict → Status
status_of (Accepted n) = statuses.Done
status_of (Rejected k) = statuses.Rejected
status_of (Bound k) = statuses.Bound

-- Rejected goes before Bound, and that before Done
abbrev pub worse : Status → Status → Status
worse statuses.Rejected status = statuses.Rejected
worse statuses.Bound statuses.Rejected = statuses.Rejected
worse statuses.Bound status = statuses.Bound
worse other status = status

-- the status of several verdicts
abbrev pub status_of_all : List Verdict → Status
status_of_all [] = statuses.Done
status_of_all (v ∷ vs) = worse (status_of v) (status_of_all vs)

-- a line for each monitor and its verdict, with the event at which the trace was refused
abbrev pub verdict_lines : List Which → List Verdict → List Event → List ℕ
verdict_lines [] vs t = []
verdict_lines (w ∷ ws) [] t = []
verdict_lines (w ∷ ws) (v ∷ vs) t = verdict_text w v (event_at t v) ++ verdict_lines ws vs t

-- what the one language has, the other has
pub data IsInside : Which → Which → Type 0 where
  dyck : IsInside Dyck Stack
  stack : IsInside Stack Callgraph

-- where a monitor accepts, so does a monitor of a language that has all that its own has
abbrev pub AreNested : List Which → List Verdict → Type 0
AreNested monitors verdicts =
    (inner outer : Which) (i j n : ℕ) → IsInside inner outer → slice_get monitors i ≡ Some inner → slice_get monitors j ≡ Some outer
    → slice_get verdicts i ≡ Some (Accepted n) → slice_get verdicts j ≡ Some (Accepted n)

-- the text has the lines of the monitors' verdicts on the trace, and the status is theirs
pub record AreJudged (monitors : List Which) (g : Graph) (bound : ℕ) (t : List Event) (status : Status) (text : List ℕ) : Type 0 where
  pub verdicts : List Verdict
  pub judged : AllZip (λ which v. IsVerdict which g bound t v) monitors verdicts
  pub nested : AreNested monitors verdicts
  pub ends : status ≡ status_of_all verdicts
  pub writes : text ≡ verdict_lines monitors verdicts t
