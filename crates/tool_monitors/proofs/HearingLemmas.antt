-- How many names may come next after a trace that a monitor refused.
use Rattle.std.proofs.Common.{ℕ, zero, List, Some, refl, arith}
use Rattle.dm_base.specs.declared.event.Event.{Event}
use Rattle.dm_base.specs.declared.verdict.Verdict.{Verdict}
use Rattle.dm_base.specs.declared.verdict.Verdict.TheVariants as verdicts
use Rattle.flow_model.specs.declared.which.Which.{Which}
use Rattle.flow_model.specs.Graph.{Graph}
use Rattle.flow_model.specs.Verdict.{IsAccepted, IsVerdict}
use Rattle.flow_model.proofs.Verdicts.{kept-reads, kept-within}
use Rattle.report.specs.Precision.{IsNext}
use Rattle.report.specs.VerdictLine.{IsGiven}
use Rattle.tool_monitors.specs.declared.judging.Refused.{Refused}
use Rattle.tool_monitors.specs.Refused.{IsRefusedAt}

-- what is refused is not accepted
refused_or_accepted : (which : Which) (g : Graph) (bound : ℕ) (t : List Event) (v : Verdict) (e : Event) → IsGiven v (Some e) → IsVerdict which g bound t v → IsAccepted which g bound t → ⊥
refused_or_accepted which g bound t (verdicts.Accepted n) e given is accepted = cc
refused_or_accepted which g bound t (verdicts.Rejected k) e given is accepted = is.refused (kept-reads which g bound _ (accepted.kept k is.within))
refused_or_accepted which g bound t (verdicts.Bound k) e given is accepted =
    let few = kept-within which g bound _ is.dyck (accepted.kept k is.within) in
    omega (arith, few, is.deep)

pub next_refused : (which : Which) (g : Graph) (bound : ℕ) (t : List Event) (r : Refused) → IsRefusedAt which g bound t r → IsNext which g bound t zero
next_refused which g bound t r at = record {
  accepted = λ accepted. absurd (refused_or_accepted which g bound t r.verdict r.event at.given at.verdict accepted);
  refused = λ no. refl;
}
