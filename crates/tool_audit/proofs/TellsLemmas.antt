-- What is told of the audit of the generated program.
use Rattle.std.proofs.Common.{◌≡◌, ◌≢◌, ℕ, ◌-◌, ◌<◌, ◌≤◌, List, ◌++◌, length, ◌∙◌, refl, sym, ap, ap₂, subst, arith}
use Rattle.dm_base.specs.declared.event.Event.{Event}
use Rattle.dm_base.specs.declared.mode.Mode.TheVariants.{Plain}
use Rattle.dm_base.specs.declared.verdict.Status.{Status}
use Rattle.dm_base.specs.declared.verdict.Status.TheVariants.{Done}
use Rattle.dm_base.specs.declared.verdict.Verdict.{Verdict}
use Rattle.dm_base.specs.declared.verdict.Verdict.TheVariants.{Accepted, Rejected, Bound}
use Rattle.dm_base.specs.Trace.{depth}
use Rattle.c_meaning.specs.MarkedRuns.{marked_run}
use Rattle.c_meaning.specs.Runs.{Run}
use Rattle.c_rules.specs.Accepted.{IsAcceptedAs}
use Rattle.c_tree.specs.Tree.{Program}
use Rattle.c_meaning.specs.GraphOfProgram.{graph_of_program}
use Rattle.generated_program.specs.Generator.{generated_source, generated_results}
use Rattle.generated_program.specs.Typed.{generated_program}
use Rattle.generated_program.specs.Bounds.{GeneratedCallsAreFew, GeneratedProgramsAreSmall}
use Rattle.generated_program.specs.Accepted.{GeneratedTextsAreAccepted}
use Rattle.tool_audit.specs.AcceptedRuns.{TextsRaiseNoAlarm}
use Rattle.report.specs.Precision.{next_text}
use Rattle.sys_table.specs.declared.sys_result.SysResult.{SysResult}
use Rattle.tool_audit.specs.Audit.{AreReported, AreVerdicts, IsAcceptedOrBound, lines_of}
use Rattle.tool_monitors.specs.Judged.{status_of}
use Rattle.tool_audit.specs.Selftest.{TellsSelftest, generated_run, summary_text}
use Rattle.tool_audit.specs.Summary.{counts_text}
use Rattle.tool_audit.specs.Source.{Source}
use Rattle.tool_audit.specs.Stopping.{StopsAuditing}
use Rattle.tool_frame.specs.declared.stop.Stop.{Stop}
use Rattle.tool_frame.specs.declared.stop.Stop.TheVariants as stops
use Rattle.tool_audit.specs.SourceError.{SourceError}
use Rattle.tool_audit.specs.SourceError.TheVariants as errors
use Rattle.tool_audit.specs.Sources.{IsSourceOf, HasNoProgram}

-- a text that was passed on and read
pub read_so : (text seen again : List ℕ) (source : Source) → seen ≡ text → again ≡ seen → IsSourceOf again Plain source → IsSourceOf text Plain source
read_so text seen again source made passed is = subst (λ (w : List ℕ). IsSourceOf w Plain source) (passed ∙ made) is

-- the generated text is accepted, so nothing but want of memory refuses it
pub never_refused : GeneratedTextsAreAccepted → (number last : ℕ) → last < 500 → (seen again : List ℕ) (error : SourceError) → seen ≡ generated_source number last → again ≡ seen → HasNoProgram error again Plain → error ≢ errors.OutOfMemory → ⊥
never_refused accepted number last small seen again error made passed none other =
    none other (generated_program number last) (subst (λ (w : List ℕ). IsAcceptedAs w Plain (generated_program number last)) (sym (passed ∙ made)) (accepted number last small))

-- its graph is within the limit, so nothing but want of memory stops the audit
never_large : (number last : ℕ) (p : Program) → GeneratedProgramsAreSmall → last < 500 → p ≡ generated_program number last → 200000 < (graph_of_program p).nodes → ⊥
never_large number last p small few same many =
    let is = (small number last).nodes_are in
    let large : 200000 < (graph_of_program (generated_program number last)).nodes = subst (λ (q : Program). 200000 < (graph_of_program q).nodes) same many in
    omega (arith, is, large, few)

pub never_stopped : GeneratedProgramsAreSmall → (number last : ℕ) (p : Program) (stop : Stop) → last < 500 → p ≡ generated_program number last → StopsAuditing stop p → stop ≢ stops.OutOfMemory → ⊥
never_stopped small number last p stops.Usage few same h other = absurd h
never_stopped small number last p (stops.Source line) few same h other = never_large number last p small few same h.1
never_stopped small number last p (stops.Model line) few same h other = absurd h
never_stopped small number last p (stops.Record line) few same h other = absurd h
never_stopped small number last p stops.Read few same h other = absurd h
never_stopped small number last p stops.Write few same h other = absurd h
never_stopped small number last p stops.OutOfMemory few same h other = other refl

-- results that were passed on
pub ran_with : (p : Program) (records seen : List SysResult) (turns : ℕ) (r : Run) → seen ≡ records → r ≡ marked_run p seen turns → r ≡ marked_run p records turns
ran_with p records seen turns r same ran = ran ∙ ap (λ (w : List SysResult). marked_run p w turns) same

pub reported_with : (p : Program) (records seen : List SysResult) (turns : ℕ) (status : Status) (report : List ℕ) → seen ≡ records → AreReported (graph_of_program p) 1000 (marked_run p seen turns).trace status report
    → AreReported (graph_of_program p) 1000 (marked_run p records turns).trace status report
reported_with p records seen turns status report same said =
    subst (λ (w : List SysResult). AreReported (graph_of_program p) 1000 (marked_run p w turns).trace status report) same said

-- where no more calls are open than the bound allows, the Dyck monitor accepts the whole trace
accepted_within : (bound : ℕ) (t : List Event) (v : Verdict) → depth t ≤ bound → IsAcceptedOrBound bound t v → v ≡ Accepted (length t)
accepted_within bound t (Accepted n) few is = ap (λ (m : ℕ). Accepted m) is.0
accepted_within bound t (Rejected k) few is = absurd is
accepted_within bound t (Bound k) few is = absurd (omega (arith, few, is))

-- in a run of the generated program no more than 500 calls are open at once
few_open : GeneratedTextsAreAccepted → TextsRaiseNoAlarm → GeneratedCallsAreFew → (number last turns : ℕ) → last < 500 → depth (marked_run (generated_program number last) (generated_results last) turns).trace ≤ 1000
few_open accepted no_alarm few number last turns small =
    let h = few number last (marked_run (generated_program number last) (generated_results last) turns).trace ((no_alarm (generated_source number last) (generated_program number last) (accepted number last small)).marked_words (generated_results last) turns) in
    omega (arith, h, small)

-- what is reported of a run of the generated program
abbrev pub IsReport : (number last turns : ℕ) → Program → Status → List ℕ → Type 0
IsReport number last turns p status report =
    AreReported (graph_of_program p) 1000 (marked_run p (generated_results last) turns).trace status report

module _ (accepted : GeneratedTextsAreAccepted) (no_alarm : TextsRaiseNoAlarm) (few : GeneratedCallsAreFew) (number last turns : ℕ) (small : last < 500) (p : Program) (status : Status) (report : List ℕ) (same : p ≡ generated_program number last) (said : IsReport number last turns p status report) where
  pub of_generated : IsReport number last turns (generated_program number last) status report
  of_generated = subst (λ (q : Program). IsReport number last turns q status report) same said

  pub all_accepted : of_generated.dyck ≡ Accepted (length (marked_run (generated_program number last) (generated_results last) turns).trace)
  all_accepted =
      accepted_within 1000 (marked_run (generated_program number last) (generated_results last) turns).trace of_generated.dyck (few_open accepted no_alarm few number last turns small) (of_generated.verdicts).accepted

  pub ends_done : status ≡ Done
  ends_done = of_generated.ends ∙ ap status_of all_accepted

-- the summary and what is reported are what is to be told
pub tells : (accepted : GeneratedTextsAreAccepted) (no_alarm : TextsRaiseNoAlarm) (few : GeneratedCallsAreFew) (number size : ℕ) → size - 1 < 500 → (p : Program) (nodes events : ℕ) (status : Status) (report again summary text : List ℕ) → p ≡ generated_program number (size - 1)
    → AreReported (graph_of_program p) 1000 (marked_run p (generated_results (size - 1)) 1000000).trace status report → nodes ≡ (graph_of_program p).nodes → events ≡ length (marked_run p (generated_results (size - 1)) 1000000).trace
    → summary ≡ counts_text p nodes events → again ≡ report → text ≡ summary ++ again → TellsSelftest number size text
tells accepted no_alarm few number size small p nodes events status report again summary text same said nodes_are events_are told passed joins =
    let last = size - 1 in
    let trace : List Event = (generated_run number last).trace in
    let here = of_generated accepted no_alarm few number last 1000000 small p status report same said in
    let all : here.dyck ≡ Accepted (length trace) = all_accepted accepted no_alarm few number last 1000000 small p status report same said in
    let counts : counts_text p nodes events ≡ summary_text p (marked_run p (generated_results last) 1000000) = ap₂ (λ n e. counts_text p n e) nodes_are events_are in
    let generated : summary_text p (marked_run p (generated_results last) 1000000) ≡ summary_text (generated_program number last) (generated_run number last) =
    ap (λ (q : Program). summary_text q (marked_run q (generated_results last) 1000000)) same in
    let lines : again ≡ lines_of trace (Accepted (length trace)) ++ next_text here.callgraph_next here.stack_next here.dyck_next =
    passed ∙ (here.writes ∙ ap (λ (v : Verdict). lines_of trace v ++ next_text here.callgraph_next here.stack_next here.dyck_next) all) in
    record {
      accepted = accepted number last small;
      verdicts = subst (λ (v : Verdict). AreVerdicts (graph_of_program (generated_program number last)) 1000 trace v) all here.verdicts;
      callgraph_next = here.callgraph_next;
      stack_next = here.stack_next;
      dyck_next = here.dyck_next;
      next = here.next;
      tells = joins ∙ ap₂ (λ (w u : List ℕ). w ++ u) (told ∙ counts ∙ generated) lines;
    }
