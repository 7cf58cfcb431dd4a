-- The verdicts of several monitors on one trace, each with what may come next after the events that the monitor keeps.
use Rattle.std.specs.Prelude.{◌≡◌, ℕ, List, [], ◌∷◌, ◌++◌, map}
use Rattle.std.specs.List.{AllZip}
use Rattle.dm_base.specs.declared.event.Event.{Event}
use Rattle.dm_base.specs.declared.verdict.Status.{Status}
use Rattle.dm_base.specs.declared.verdict.Verdict.{Verdict}
use Rattle.flow_model.specs.declared.which.Which.{Which}
use Rattle.flow_model.specs.Graph.{Graph}
use Rattle.flow_model.specs.Verdict.{IsVerdict}
use Rattle.report.specs.VerdictLine.{verdict_text, event_at}
use Rattle.tool_monitors.specs.Judged.{AreNested, status_of_all}
use Rattle.expected_events.specs.Kept.{kept_part}
use Rattle.expected_events.specs.Next.{Next, IsNext}
use Rattle.expected_events.specs.Text.{next_text}

-- a verdict on a trace, and what may come next after the events that are kept
pub record Finding : Type 0 where
  pub verdict : Verdict
  pub next : Next

pub record IsFinding (which : Which) (g : Graph) (bound : ℕ) (t : List Event) (f : Finding) : Type 0 where
  pub verdict : IsVerdict which g bound t f.verdict
  pub next : IsNext which g (kept_part t f.verdict) f.next

-- the verdict's line, and then those of what may come next
abbrev pub finding_text : Which → Graph → List Event → Finding → List ℕ
finding_text which g t f = verdict_text which f.verdict (event_at t f.verdict) ++ next_text g f.next

-- the text of each monitor's finding
abbrev pub finding_lines : List Which → Graph → List Event → List Finding → List ℕ
finding_lines [] g t fs = []
finding_lines (w ∷ ws) g t [] = []
finding_lines (w ∷ ws) g t (f ∷ fs) = finding_text w g t f ++ finding_lines ws g t fs

-- the verdicts of the findings
abbrev pub verdicts_of : List Finding → List Verdict
verdicts_of fs = map (λ f. f.verdict) fs

-- the text has the findings of the monitors on the trace, and the status is that of their verdicts
pub record AreExpected (monitors : List Which) (g : Graph) (bound : ℕ) (t : List Event) (status : Status) (text : List ℕ) : Type 0 where
  pub findings : List Finding
  pub found : AllZip (λ which f. IsFinding which g bound t f) monitors findings
  pub nested : AreNested monitors (verdicts_of findings)
  pub ends : status ≡ status_of_all (verdicts_of findings)
  pub writes : text ≡ finding_lines monitors g t findings
