-- A verdict on an accepted trace, and the model and the trace that files hold.
use Rattle.std.proofs.Common.{◌≡◌, ℕ, List, [], ◌∷◌, length, inl, inr, refl, sym, ◌∙◌, ap, subst}
use Rattle.std.proofs.lemmas.List.{append-nil}
use Rattle.std.specs.Prelude.{◌⊎◌}
use Rattle.std.specs.List.{AllZip}
use Rattle.dm_base.specs.declared.event.Event.{Event}
use Rattle.dm_base.specs.declared.mode.Mode.{Mode}
use Rattle.dm_base.specs.declared.mode.Mode.TheVariants.{Plain, Instrumented}
use Rattle.dm_base.specs.declared.outcome.TraceEnd.{TraceEnd}
use Rattle.dm_base.specs.declared.outcome.TraceEnd.TheVariants.{Ended}
use Rattle.dm_base.specs.declared.verdict.Status.TheVariants.{Done}
use Rattle.dm_base.specs.declared.verdict.Verdict.{Verdict}
use Rattle.dm_base.specs.declared.verdict.Verdict.TheVariants.{Accepted, Rejected, Bound}
use Rattle.dm_io.specs.Store.{file_at}
use Rattle.c_meaning.specs.Runs.{run}
use Rattle.c_rules.specs.Accepted.{IsAcceptedAs}
use Rattle.c_tree.specs.Tree.{Program}
use Rattle.headline.specs.AcceptedRuns.{TextsRaiseNoAlarm}
use Rattle.c_meaning.specs.Monitors.{IsAcceptedByBoth}
use Rattle.flow_model.specs.declared.which.Which.{Which}
use Rattle.flow_model.specs.declared.which.Which.TheVariants.{Callgraph, Stack, Dyck}
use Rattle.flow_model.specs.Graph.{Graph}
use Rattle.flow_model.specs.Verdict.{IsVerdict}
use Rattle.c_meaning.specs.GraphOfProgram.{graph_of_program}
use Rattle.tool_monitors.specs.declared.asked.Asked.{Asked}
use Rattle.tool_monitors.specs.declared.asked.Asked.TheVariants as asked
use Rattle.tool_monitors.specs.Judged.{status_of, status_of_all}
use Rattle.tool_monitors.specs.Monitors.{monitors_of}
use Rattle.model_file.specs.Refusal.{IsModel}
use Rattle.trace_file.specs.Trace.{IsTrace}
use Rattle.trace_file.proofs.OneReading.{one_trace}
use Rattle.tool_laws.specs.JudgedRuns.{ReadsPlainTraces, JudgedRunsAreAccepted}

-- the callgraph monitor or the stack monitor accepts the whole trace, so this is its only verdict
one_verdict : (w : Which) (g : Graph) (bound : ℕ) (t : List Event) (v : Verdict) → (w ≡ Callgraph) ⊎ (w ≡ Stack) → IsVerdict w g bound t (Accepted (length t)) → IsVerdict w g bound t v → status_of v ≡ Done
one_verdict w g bound t (Accepted n) known accepted is = refl
one_verdict Callgraph g bound t (Rejected k) known accepted is = absurd (is.refused (accepted.1.kept k is.within))
one_verdict Stack g bound t (Rejected k) known accepted is = absurd (is.refused (accepted.1.kept k is.within))
one_verdict Dyck g bound t (Rejected k) known accepted is = elim known [ inl q ↦ cc q | inr q ↦ cc q ]
one_verdict w g bound t (Bound k) (inl q) accepted is = cc (q, is.dyck)
one_verdict w g bound t (Bound k) (inr q) accepted is = cc (q, is.dyck)

pub one_status : (w : Which) (g : Graph) (bound : ℕ) (t : List Event) (verdicts : List Verdict) → (w ≡ Callgraph) ⊎ (w ≡ Stack) → IsVerdict w g bound t (Accepted (length t)) → AllZip (λ which v. IsVerdict which g bound t v) (w ∷ []) verdicts → status_of_all verdicts ≡ Done
one_status w g bound t [] known accepted judged = absurd judged
one_status w g bound t (Rejected k ∷ []) known accepted judged = one_verdict w g bound t (Rejected k) known accepted judged.0
one_status w g bound t (Bound k ∷ []) known accepted judged = cc (one_verdict w g bound t (Bound k) known accepted judged.0)
one_status w g bound t (Accepted n ∷ []) known accepted judged = refl
one_status w g bound t (v ∷ x ∷ verdicts) known accepted judged = absurd judged.1

-- a text is that of one trace
pub same_events : (text other : List ℕ) (events later : List Event) (end last : TraceEnd) → IsTrace text events end → IsTrace other later last → other ≡ text → later ≡ events
same_events text other events later end last a b same =
    (one_trace text [] events later end last a (subst (λ (w : List ℕ). IsTrace w later last) (same ∙ sym (append-nil text)) b)).0

of_both : (which : Asked) → ReadsPlainTraces which → (g : Graph) (bound : ℕ) (t : List Event) (verdicts : List Verdict) → IsAcceptedByBoth g bound t → AllZip (λ w v. IsVerdict w g bound t v) (monitors_of which) verdicts → status_of_all verdicts ≡ Done
of_both asked.Callgraph plain g bound t verdicts accepted judged = one_status Callgraph g bound t verdicts (inl refl) accepted.callgraph judged
of_both asked.Stack plain g bound t verdicts accepted judged = one_status Stack g bound t verdicts (inr refl) accepted.stack judged
of_both asked.Dyck plain g bound t verdicts accepted judged = absurd plain
of_both asked.All plain g bound t verdicts accepted judged = absurd plain

pub judged_accepted : ((text : List ℕ) (m : Mode) (p q : Program) → IsAcceptedAs text m p → IsAcceptedAs text m q → p ≡ q)
    → ((text : List ℕ) (p : Program) → IsAcceptedAs text Plain p → IsAcceptedAs text Instrumented p)
    → ((text : List ℕ) (g h : Graph) → IsModel text g → IsModel text h → g ≡ h)
    → TextsRaiseNoAlarm → JudgedRunsAreAccepted
judged_accepted once both one alarm files source results turns model trace models runs later m t is_model is_trace which plain bound status text judges =
    let p : Program = models.0 in
    let same : p ≡ runs.program = once (file_at files source) Instrumented p runs.program (both (file_at files source) p models.1) runs.accepted in
    let graph : graph_of_program p ≡ judges.graph = one model (graph_of_program p) judges.graph (models.2).written.is_model (subst (λ (w : List ℕ). IsModel w judges.graph) is_model judges.is_model) in
    let events : judges.events ≡ (run runs.program runs.records turns).trace =
    same_events trace (file_at later t) (run runs.program runs.records turns).trace judges.events (Ended (run runs.program runs.records turns).outcome) judges.end runs.formed judges.is_trace.trace is_trace in
    let quiet : IsAcceptedByBoth (graph_of_program p) bound (run p runs.records turns).trace = (alarm (file_at files source) p models.1).accepted runs.records turns bound in
    let own : IsAcceptedByBoth (graph_of_program p) bound judges.events =
    subst (λ (w : List Event). IsAcceptedByBoth (graph_of_program p) bound w) (ap (λ (q : Program). (run q runs.records turns).trace) same ∙ sym events) quiet in
    judges.judged.ends ∙ of_both which plain judges.graph bound judges.events judges.judged.verdicts (subst (λ (g : Graph). IsAcceptedByBoth g bound judges.events) graph own) judges.judged.judged
