-- What `audit FILE RESULTS TURNS K` makes of its files, and why it refuses them (Wagner and Dean 2001; Giffin, Jha and Miller 2004).
use Rattle.std.specs.Prelude.{◌≡◌, ◌≢◌, ◌⊎◌, ℕ, ◌<◌, ◌≤◌, List, [], ◌∷◌, ◌++◌, length, Option, IfSome, IsSomeAnd}
use Rattle.dm_base.specs.declared.event.Event.{Event}
use Rattle.dm_base.specs.declared.mode.Mode.TheVariants.{Plain}
use Rattle.dm_base.specs.declared.outcome.TraceEnd.TheVariants.{Ended}
use Rattle.dm_base.specs.declared.verdict.Status.{Status}
use Rattle.dm_base.specs.declared.verdict.Status.TheVariants as statuses
use Rattle.dm_base.specs.declared.verdict.Verdict.{Verdict}
use Rattle.dm_base.specs.declared.verdict.Verdict.TheVariants.{Accepted, Rejected, Bound}
use Rattle.dm_base.specs.Trace.{depth}
use Rattle.dm_io.specs.Store.{Files, file_at, IsMissing}
use Rattle.flow_model.specs.declared.which.Which.TheVariants.{Callgraph, Stack, Dyck}
use Rattle.flow_model.specs.Graph.{Graph}
use Rattle.flow_model.specs.Verdict.{IsVerdict}
use Rattle.c_rules.specs.Accepted.{IsAcceptedAs}
use Rattle.c_meaning.specs.Runs.{Run}
use Rattle.c_tree.specs.Tree.{Program}
use Rattle.null_calls_laws.specs.MarkedRuns.{marked_run}
use Rattle.c_meaning.specs.GraphOfProgram.{graph_of_program}
use Rattle.tool_monitors.specs.Judged.{status_of, verdict_lines}
use Rattle.report.specs.Precision.{IsNext, next_text}
use Rattle.tool_steps.specs.Results.{run_text, AreSomeResults, results_refusal}
use Rattle.tool_steps.specs.ModelTexts.{many_nodes}
use Rattle.tool_steps.specs.Sources.{RefusesSource}
use Rattle.sys_table.specs.declared.results_error.ResultsError.{ResultsError}
use Rattle.sys_table.specs.declared.results_error.ResultsError.TheVariants.{OutOfMemory}
use Rattle.sys_table.specs.declared.sys_result.SysResult.{SysResult}
use Rattle.sys_table.specs.ResultsText.{AreResultsWithin, IsResultsRefusal}
use Rattle.trace_file.specs.Trace.{IsTrace}

-- the verdict of the Dyck monitor: it accepts the whole trace, or its bound comes, exactly where more calls are open at once than it allows
abbrev pub IsAcceptedOrBound : ℕ → List Event → Verdict → Type 0
IsAcceptedOrBound bound t (Accepted n) = (n ≡ length t) × (depth t ≤ bound)
IsAcceptedOrBound bound t (Rejected k) = ⊥
IsAcceptedOrBound bound t (Bound k) = bound < depth t

-- The verdicts of the three monitors of the graph on the trace: the callgraph and the abstract-stack monitor accept it whole, and none
-- rejects it.
pub record AreVerdicts (g : Graph) (bound : ℕ) (t : List Event) (dyck : Verdict) : Type 0 where
  pub callgraph : IsVerdict Callgraph g bound t (Accepted (length t))
  pub stack : IsVerdict Stack g bound t (Accepted (length t))
  pub is_dyck : IsVerdict Dyck g bound t dyck
  pub accepted : IsAcceptedOrBound bound t dyck

-- their three lines
abbrev pub lines_of : List Event → Verdict → List ℕ
lines_of t dyck =
    verdict_lines (Callgraph ∷ Stack ∷ Dyck ∷ []) (Accepted (length t) ∷ Accepted (length t) ∷ dyck ∷ []) t

-- how many names of system calls may come next after the trace, by each monitor of the graph
pub record AreNext (g : Graph) (bound : ℕ) (t : List Event) (callgraph stack dyck : ℕ) : Type 0 where
  pub in_callgraph : IsNext Callgraph g bound t callgraph
  pub in_stack : IsNext Stack g bound t stack
  pub in_dyck : IsNext Dyck g bound t dyck

-- What the monitors of the graph say of the trace: a status, and a text of their verdict lines and the line of the calls that may come next.
pub record AreReported (g : Graph) (bound : ℕ) (t : List Event) (status : Status) (text : List ℕ) : Type 0 where
  pub dyck : Verdict
  pub verdicts : AreVerdicts g bound t dyck
  pub callgraph_next : ℕ
  pub stack_next : ℕ
  pub dyck_next : ℕ
  pub next : AreNext g bound t callgraph_next stack_next dyck_next
  pub ends : status ≡ status_of dyck
  pub writes : text ≡ lines_of t dyck ++ next_text callgraph_next stack_next dyck_next

-- The text of the audit of a run: its trace and outcome, the verdict lines of the monitors of the graph on the trace, and the line of the
-- calls that may come next.
pub record IsAuditOf (g : Graph) (bound : ℕ) (r : Run) (status : Status) (text : List ℕ) : Type 0 where
  pub dyck : Verdict
  pub verdicts : AreVerdicts g bound r.trace dyck
  pub callgraph_next : ℕ
  pub stack_next : ℕ
  pub dyck_next : ℕ
  pub next : AreNext g bound r.trace callgraph_next stack_next dyck_next
  pub ends : status ≡ status_of dyck
  pub writes : text ≡ run_text r ++ (lines_of r.trace dyck ++ next_text callgraph_next stack_next dyck_next)
  pub formed : IsTrace (run_text r) r.trace (Ended r.outcome)

-- the status of an audit that was made: that of the Dyck monitor's verdict, which is never Rejected
abbrev pub IsAuditStatus : Status → Type 0
IsAuditStatus status = (status ≡ statuses.Done) ⊎ (status ≡ statuses.Bound)

-- The one file's text is accepted as a program, the other's is that of recorded results, and the text is that of the audit of the run
-- with these results and so many turns and with null calls round the program's marked calls, by the monitors of the program's graph.
pub record Audits (files : Files) (source results : List ℕ) (turns bound : ℕ) (status : Status) (text : List ℕ) : Type 0 where
  pub program : Program
  pub records : List SysResult
  pub accepted : IsAcceptedAs (file_at files source) Plain program
  pub recorded : AreResultsWithin (file_at files results) records
  pub few : (graph_of_program program).nodes ≤ 200000
  pub is : IsAuditOf (graph_of_program program) bound (marked_run program records turns) status text

abbrev pub IsPlainProgram : Files → List ℕ → Type 0
IsPlainProgram files name = (p : Program) × IsAcceptedAs (file_at files name) Plain p

-- the source is a program, and the file of results is refused, with this status and this line
abbrev pub RefusesResultsOfPlain : Option Files → List ℕ → List ℕ → Status → List ℕ → Type 0
RefusesResultsOfPlain files source results status line =
    (error : ResultsError) × (error ≢ OutOfMemory) × (status ≡ statuses.RecordRefused) × (line ≡ results_refusal error)
    × IfSome files (λ told. IsPlainProgram told source × IsResultsRefusal error (file_at told results))

-- both files are read, and the program's graph has more nodes than a model may have
abbrev pub RefusesGraph : Option Files → List ℕ → List ℕ → Status → List ℕ → Type 0
RefusesGraph files source results status line =
    (status ≡ statuses.SourceRefused) × (line ≡ many_nodes)
    × IfSome files (λ told. (p : Program) × IsAcceptedAs (file_at told source) Plain p × AreSomeResults told results × (200000 < (graph_of_program p).nodes))

-- the files are read and refused in this order
abbrev pub RefusesToAudit : Option Files → List ℕ → List ℕ → Status → List ℕ → Type 0
RefusesToAudit files source results status line =
    RefusesSource Plain files source status line ⊎ RefusesResultsOfPlain files source results status line ⊎ RefusesGraph files source results status line

-- the source isn't there, or the file of results isn't there and the source is a program
abbrev pub LacksToAudit : Option Files → List ℕ → List ℕ → Type 0
LacksToAudit files source results = IsMissing files source ⊎ (IsMissing files results × IfSome files (λ told. IsPlainProgram told source))

-- both files are told, and are a program with a graph within the limit, and recorded results
abbrev pub IsReadyToAudit : Option Files → List ℕ → List ℕ → Type 0
IsReadyToAudit files source results =
    IsSomeAnd files (λ told. (p : Program) × IsAcceptedAs (file_at told source) Plain p × ((graph_of_program p).nodes ≤ 200000) × AreSomeResults told results)
