-- What the three monitors of a program's graph say of its marked run.
use Rattle.std.proofs.Common.{◌≡◌, ℕ, ◌+◌, List, [], ◌++◌, length, take, inl, inr, sym, ◌∙◌, ap, subst, append-nil, append_assoc, arith}
use Rattle.dm_base.specs.declared.event.Event.{Event}
use Rattle.dm_base.specs.declared.outcome.TraceEnd.TheVariants.{Ended}
use Rattle.dm_base.specs.declared.verdict.Status.{Status}
use Rattle.dm_base.specs.declared.verdict.Verdict.{Verdict}
use Rattle.dm_base.specs.declared.verdict.Verdict.TheVariants.{Accepted, Rejected, Bound}
use Rattle.flow_model.specs.declared.which.Which.{Which}
use Rattle.flow_model.specs.declared.which.Which.TheVariants.{Callgraph, Stack, Dyck}
use Rattle.flow_model.specs.Graph.{Graph}
use Rattle.flow_model.specs.Verdict.{IsVerdict}
use Rattle.flow_model.proofs.Histories.{accepted_whole}
use Rattle.flow_model.proofs.Verdicts.{kept-reads}
use Rattle.null_calls_laws.specs.Monitors.{IsAcceptedByAll}
use Rattle.c_meaning.specs.Runs.{Run}
use Rattle.tool_monitors.specs.Judged.{status_of, worse}
use Rattle.report.specs.Precision.{next_text}
use Rattle.report.specs.VerdictLine.{verdict_text, event_at}
use Rattle.tool_steps.specs.Results.{run_text}
use Rattle.trace_file.specs.Trace.{IsTrace}
use Rattle.tool_audit.specs.Audit.{AreReported, IsAcceptedOrBound, IsAuditOf, IsAuditStatus}
use Rattle.tool_audit.specs.Heard.{AreHeard}
use Rattle.headline.proofs.Fronts.{depth_front}

-- a monitor that accepts the whole trace has no other verdict on it
one_verdict : (w : Which) (g : Graph) (bound : ℕ) (t : List Event) (v : Verdict) → (w ≡ Dyck → ⊥) → IsVerdict w g bound t (Accepted (length t)) → IsVerdict w g bound t v → v ≡ Accepted (length t)
one_verdict w g bound t (Accepted n) plain accepted is = ap (λ (m : ℕ). Accepted m) is.0
one_verdict w g bound t (Rejected k) plain accepted is = absurd (is.refused (kept-reads w g bound (take k t) (accepted.1.kept k is.within)))
one_verdict w g bound t (Bound k) plain accepted is = absurd (plain is.dyck)

callgraph_alone : Callgraph ≡ Dyck → ⊥
callgraph_alone same = cc

stack_alone : Stack ≡ Dyck → ⊥
stack_alone same = cc

-- the Dyck monitor accepts the whole trace, or its bound comes
dyck_verdict : (g : Graph) (bound : ℕ) (t : List Event) (v : Verdict) → IsAcceptedByAll g bound t → IsVerdict Dyck g bound t v → IsAcceptedOrBound bound t v
dyck_verdict g bound t (Accepted n) all is = (is.0, (accepted_whole Dyck g bound t is.1).1)
dyck_verdict g bound t (Rejected k) all is = all.never_rejected k is
dyck_verdict g bound t (Bound k) all is = let front = depth_front k t in omega (arith, front, is.deep)

-- lines one after the other, however they are put together
pub regrouped : (x y z n : List ℕ) → (x ++ (y ++ (z ++ []))) ++ n ≡ x ++ (y ++ (z ++ n))
regrouped x y z n = append_assoc x (y ++ (z ++ [])) n ∙ ap (λ (w : List ℕ). x ++ w) (append_assoc y (z ++ []) n ∙ ap (λ (w : List ℕ). y ++ (w ++ n)) (append-nil z))

abbrev line : List Event → Which → Verdict → List ℕ
line t w v = verdict_text w v (event_at t v)

-- what is reported of a trace that the monitors accept
pub reported : (g : Graph) (bound : ℕ) (t : List Event) (status : Status) (heard : List ℕ) → IsAcceptedByAll g bound t → AreHeard g bound t status heard → AreReported g bound t status heard
reported g bound t status heard all said =
    let first : said.callgraph ≡ Accepted (length t) = one_verdict Callgraph g bound t said.callgraph callgraph_alone all.others.callgraph said.is_callgraph in
    let second : said.stack ≡ Accepted (length t) = one_verdict Stack g bound t said.stack stack_alone all.others.stack said.is_stack in
    let ended : status ≡ status_of said.dyck =
    subst (λ (v : Verdict). status ≡ worse (status_of v) (worse (status_of (Accepted (length t))) (status_of said.dyck))) first
    (subst (λ (v : Verdict). status ≡ worse (status_of said.callgraph) (worse (status_of v) (status_of said.dyck))) second said.ends) in
    let lines : heard ≡ line t Callgraph (Accepted (length t)) ++ (line t Stack (Accepted (length t)) ++ (line t Dyck said.dyck ++ next_text said.callgraph_next said.stack_next said.dyck_next)) =
    subst (λ (v : Verdict). heard ≡ line t Callgraph v ++ (line t Stack (Accepted (length t)) ++ (line t Dyck said.dyck ++ next_text said.callgraph_next said.stack_next said.dyck_next))) first
    (subst (λ (v : Verdict). heard ≡ line t Callgraph said.callgraph ++ (line t Stack v ++ (line t Dyck said.dyck ++ next_text said.callgraph_next said.stack_next said.dyck_next))) second said.writes) in
    record {
      dyck = said.dyck;
      verdicts = record { callgraph = all.others.callgraph; stack = all.others.stack; is_dyck = said.is_dyck; accepted = dyck_verdict g bound t said.dyck all said.is_dyck };
      callgraph_next = said.callgraph_next;
      stack_next = said.stack_next;
      dyck_next = said.dyck_next;
      next = said.next;
      ends = ended;
      writes = lines ∙ sym (regrouped (line t Callgraph (Accepted (length t))) (line t Stack (Accepted (length t))) (line t Dyck said.dyck) (next_text said.callgraph_next said.stack_next said.dyck_next));
    }

-- the audit of a run, by what is reported of its trace
pub audit_of : (g : Graph) (bound : ℕ) (r : Run) (status : Status) (heard text : List ℕ) → AreReported g bound r.trace status heard → text ≡ run_text r ++ heard → IsTrace (run_text r) r.trace (Ended r.outcome) → IsAuditOf g bound r status text
audit_of g bound r status heard text said writes formed = record {
  dyck = said.dyck;
  verdicts = said.verdicts;
  callgraph_next = said.callgraph_next;
  stack_next = said.stack_next;
  dyck_next = said.dyck_next;
  next = said.next;
  ends = said.ends;
  writes = writes ∙ ap (λ (w : List ℕ). run_text r ++ w) said.writes;
  formed = formed;
}

-- the status of an audit is never that of a rejection
pub audit_ends : (g : Graph) (bound : ℕ) (r : Run) (status : Status) (text : List ℕ) → IsAuditOf g bound r status text → IsAuditStatus status
audit_ends g bound r status text made = of made.dyck (made.verdicts).accepted made.ends
  where
    of : (v : Verdict) → IsAcceptedOrBound bound r.trace v → status ≡ status_of v → IsAuditStatus status
    of (Accepted n) accepted is = inl is
    of (Rejected k) accepted is = absurd accepted
    of (Bound k) accepted is = inr is
