-- The instrumented unit of a source is typed, its program runs as the plain one does with null calls at its marked sites, and what is told
-- of that run.
use Rattle.std.proofs.Common.{◌≡◌, ℕ, List, ◌++◌, All, sym, ◌∙◌, ap, subst}
use Rattle.dm_base.specs.declared.event.Event.{Event}
use Rattle.dm_base.specs.declared.mode.Mode.TheVariants.{Plain, Instrumented}
use Rattle.dm_base.specs.declared.outcome.TraceEnd.TheVariants.{Ended}
use Rattle.dm_base.specs.declared.verdict.Status.{Status}
use Rattle.headline.specs.AcceptedRuns.{TextsRaiseNoAlarm}
use Rattle.null_calls_laws.specs.MarkedRuns.{null_calls_of, marked_run}
use Rattle.null_calls_laws.specs.Monitors.{IsAcceptedByAll}
use Rattle.null_calls_laws.proofs.TypedRuns.{null_calls_recorded}
use Rattle.headline.specs.Units.{InstrumentedTextsRunMarked}
use Rattle.tool_steps.specs.Refused.{IsRefused}
use Rattle.c_check_values.specs.declared.error.CheckError.{CheckError}
use Rattle.c_check_values.specs.declared.error.CheckError.TheVariants.{At}
use Rattle.c_meaning.specs.Runs.{Run, run}
use Rattle.c_meaning.specs.Laws.{IsTypedRun, RunsAreTyped}
use Rattle.c_meaning.specs.TypedResults.{IsEnding}
use Rattle.c_rules.specs.Units.{IsTyped}
use Rattle.c_syntax.specs.Tree.{Items}
use Rattle.c_syntax.specs.UnitView.{items_of}
use Rattle.c_tree.specs.Program.{IsProgram}
use Rattle.c_tree.specs.Tree.{Program}
use Rattle.c_tree.specs.View.{program_of}
use Rattle.flow_model.specs.Graph.{Graph}
use Rattle.c_meaning.specs.GraphOfProgram.{graph_of_program}
use Rattle.headline.specs.LexicalTexts.{InstrumentedUnitsAreLexical}
use Rattle.null_calls_laws.specs.Instrumented.{instrumented_unit}
use Rattle.tool_steps.specs.Run.{Run as Found}
use Rattle.tool_steps.specs.WholeRuns.{run_of}
use Rattle.tool_steps.specs.Results.{run_text}
use Rattle.tool_steps.specs.declared.source.Source.{Source}
use Rattle.tool_steps.specs.Sources.{IsSourceOf}
use Rattle.tool_steps.proofs.SourceLemmas.{one_typing, source_accepted}
use Rattle.sys_table.specs.declared.sys_result.SysResult.{SysResult}
use Rattle.sys_table.specs.Table.{IsRecorded}
use Rattle.trace_file.specs.EventText.{IsCountedEnd}
use Rattle.trace_file.specs.Trace.{trace_text, IsTrace}
use Rattle.c_rules_laws.specs.Lexical.{IsUnitLexical}
use Rattle.c_rules_laws.specs.WellTyped.{SpelledUnitsAreLexical}
use Rattle.tool_audit.specs.Audit.{AreReported, IsAuditOf}
use Rattle.tool_audit.specs.Heard.{AreHeard}
use Rattle.tool_audit.proofs.Verdicts.{reported, audit_of}
use Rattle.tool_steps.proofs.RecordedRuns.{counted}

-- so the checker takes it
pub is_lexical : SpelledUnitsAreLexical → InstrumentedUnitsAreLexical → (text : List ℕ) (source : Source) (u : Items) → IsSourceOf text Plain source → u ≡ instrumented_unit (program_of source.program) (items_of source.unit.items.items) → IsUnitLexical u
is_lexical spelled law text source u is same =
    let plain = items_of source.unit.items.items in
    subst IsUnitLexical (sym same) (law plain (program_of source.program) (spelled text Plain is.tokens plain is.lexed is.spelled) is.typed)

pub runs_marked : InstrumentedTextsRunMarked → (text : List ℕ) (source : Source) (u : Items) (q : Program) → IsSourceOf text Plain source → u ≡ instrumented_unit (program_of source.program) (items_of source.unit.items.items) → IsTyped u Instrumented q
    → (records : List SysResult) (turns : ℕ) → run q records turns ≡ marked_run (program_of source.program) records turns
runs_marked law text source u q is same typed records turns =
    let p = program_of source.program in
    let plain = items_of source.unit.items.items in
    let found = law text is.tokens plain p is.lexed is.spelled is.typed in
    let one : found.0 ≡ q = one_typing (instrumented_unit p plain) Instrumented found.0 q found.1 (subst (λ (w : Items). IsTyped w Instrumented q) same typed) in
    subst (λ (w : Program). run w records turns ≡ marked_run p records turns) one (found.3 records turns)

-- the instrumented unit is typed, so no demand on it fails
pub never_refused : InstrumentedTextsRunMarked → (text : List ℕ) (source : Source) (u : Items) → IsSourceOf text Plain source → u ≡ instrumented_unit (program_of source.program) (items_of source.unit.items.items) → (error : CheckError) (code place : ℕ) → error ≡ At code place → IsRefused u Instrumented error → ⊥
never_refused law text source u is same error code place e h =
    let p = program_of source.program in
    let plain = items_of source.unit.items.items in
    let found = law text is.tokens plain p is.lexed is.spelled is.typed in
    let refused : IsRefused u Instrumented (At code place) = subst (λ (x : CheckError). IsRefused u Instrumented x) e h in
    refused.1 found.0 (subst (λ (w : Items). IsTyped w Instrumented found.0) (sym same) found.1)

-- what is reported of the run that the machine found, where its events were passed on
pub reported_found : TextsRaiseNoAlarm → (from : List ℕ) (source : Source) (q : Program) (records : List SysResult) (turns bound : ℕ) (found : Found) (g : Graph) (status : Status) (heard : List ℕ)
    → IsSourceOf from Plain source → g ≡ graph_of_program (program_of source.program) → run_of found ≡ run q records turns → ((records : List SysResult) (turns : ℕ) → run q records turns ≡ marked_run (program_of source.program) records turns)
    → AreHeard g bound found.trace.items status heard → AreReported (graph_of_program (program_of source.program)) bound (marked_run (program_of source.program) records turns).trace status heard
reported_found law from source q records turns bound found g status heard is same ran marked said =
    let p = program_of source.program in
    let r : run_of found ≡ marked_run p records turns = ran ∙ marked records turns in
    let all : IsAcceptedByAll (graph_of_program p) bound (marked_run p records turns).trace = (law from p (source_accepted from Plain source is)).marked_accepted records turns bound in
    let given : AreHeard (graph_of_program p) bound found.trace.items status heard =
    subst (λ (h : Graph). AreHeard h bound found.trace.items status heard) same said in
    let passed : AreHeard (graph_of_program p) bound (marked_run p records turns).trace status heard =
    subst (λ (w : Run). AreHeard (graph_of_program p) bound w.trace status heard) r given in
    reported (graph_of_program p) bound (marked_run p records turns).trace status heard all passed

-- the audit of that run, where its events and the lines are those that were passed on
pub audit_found : (p : Program) (records : List SysResult) (turns bound : ℕ) (found : Found) (status : Status) (again : List Event) (heard told shown text : List ℕ) → run_of found ≡ marked_run p records turns
    → AreReported (graph_of_program p) bound (marked_run p records turns).trace status heard → again ≡ found.trace.items → shown ≡ trace_text again (Ended found.outcome) → IsTrace shown again (Ended found.outcome) → told ≡ heard → text ≡ shown ++ told
    → IsAuditOf (graph_of_program p) bound (marked_run p records turns) status text
audit_found p records turns bound found status again heard told shown text r said second writes formed passed joins =
    let given : AreReported (graph_of_program p) bound (run_of found).trace status heard =
    subst (λ (w : Run). AreReported (graph_of_program p) bound w.trace status heard) (sym r) said in
    let wrote : shown ≡ run_text (run_of found) = subst (λ (t : List Event). shown ≡ trace_text t (Ended found.outcome)) second writes in
    let trace : IsTrace (run_text (run_of found)) found.trace.items (Ended found.outcome) =
    subst (λ (w : List ℕ). IsTrace w found.trace.items (Ended found.outcome)) wrote (subst (λ (t : List Event). IsTrace shown t (Ended found.outcome)) second formed) in
    let whole : text ≡ run_text (run_of found) ++ heard = joins ∙ (ap (λ (w : List ℕ). w ++ told) wrote ∙ ap (λ (w : List ℕ). run_text (run_of found) ++ w) passed) in
    subst (λ (w : Run). IsAuditOf (graph_of_program p) bound w status text) r (audit_of (graph_of_program p) bound (run_of found) status heard text given whole trace)

-- the run with null calls round the marked calls, which was found so, can be written as a trace
typed_run : RunsAreTyped → (p : Program) (n : ℕ) → IsProgram p n → (records : List SysResult) (turns : ℕ) → IsTypedRun (marked_run p records turns)
typed_run typed p n is records turns = typed p n is (null_calls_of p) (null_calls_recorded p) records turns

pub events_recorded : RunsAreTyped → (p : Program) (n : ℕ) → IsProgram p n → (records : List SysResult) (turns : ℕ) (found : Found) (again : List Event) → run_of found ≡ marked_run p records turns → again ≡ found.trace.items → All IsRecorded again
events_recorded typed p n is records turns found again same second =
    subst (λ (t : List Event). All IsRecorded t) (sym second) (subst (λ (r : Run). All IsRecorded r.trace) (sym same) (typed_run typed p n is records turns).trace)

pub end_counted : RunsAreTyped → (p : Program) (n : ℕ) → IsProgram p n → (records : List SysResult) (turns : ℕ) (found : Found) → run_of found ≡ marked_run p records turns → IsCountedEnd (Ended found.outcome)
end_counted typed p n is records turns found same =
    counted found.outcome (subst (λ (r : Run). IsEnding r.outcome) (sym same) (typed_run typed p n is records turns).outcome)
