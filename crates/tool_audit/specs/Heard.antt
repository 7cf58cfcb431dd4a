-- For private contracts and proofs alone: what the three monitors of a graph say of a trace.
use Rattle.std.specs.Prelude.{◌≡◌, ℕ, List, ◌++◌}
use Rattle.dm_base.specs.declared.event.Event.{Event}
use Rattle.dm_base.specs.declared.verdict.Status.{Status}
use Rattle.dm_base.specs.declared.verdict.Verdict.{Verdict}
use Rattle.flow_model.specs.declared.which.Which.TheVariants.{Callgraph, Stack, Dyck}
use Rattle.flow_model.specs.Graph.{Graph}
use Rattle.flow_model.specs.Verdict.{IsVerdict}
use Rattle.tool_monitors.specs.declared.hearing.Heard.{Heard}
use Rattle.tool_monitors.specs.declared.asked.Asked.TheVariants.{All}
use Rattle.tool_monitors.specs.Heard.{AreNextNames}
use Rattle.tool_monitors.specs.Monitors.{monitors_of}
use Rattle.tool_monitors.specs.Judged.{AreJudged, status_of, worse}
use Rattle.report.specs.Precision.{next_text}
use Rattle.report.specs.VerdictLine.{verdict_text, event_at}
use Rattle.tool_audit.specs.Audit.{AreNext}

-- what the three said of the trace when it had ended
pub record HaveHeard (g : Graph) (bound : ℕ) (t : List Event) (heard : Heard) : Type 0 where
  pub judged : AreJudged (monitors_of All) g bound t heard.told.status heard.told.text.items
  pub next : AreNextNames (monitors_of All) g bound t heard.next.items

-- the lines of the three verdicts, and that of the calls that may come next
pub record AreHeard (g : Graph) (bound : ℕ) (t : List Event) (status : Status) (text : List ℕ) : Type 0 where
  pub callgraph : Verdict
  pub stack : Verdict
  pub dyck : Verdict
  pub is_callgraph : IsVerdict Callgraph g bound t callgraph
  pub is_stack : IsVerdict Stack g bound t stack
  pub is_dyck : IsVerdict Dyck g bound t dyck
  pub callgraph_next : ℕ
  pub stack_next : ℕ
  pub dyck_next : ℕ
  pub next : AreNext g bound t callgraph_next stack_next dyck_next
  pub ends : status ≡ worse (status_of callgraph) (worse (status_of stack) (status_of dyck))
  pub writes : text ≡ verdict_text Callgraph callgraph (event_at t callgraph) ++ (verdict_text Stack stack (event_at t stack) ++ (verdict_text Dyck dyck (event_at t dyck) ++ next_text callgraph_next stack_next dyck_next))
