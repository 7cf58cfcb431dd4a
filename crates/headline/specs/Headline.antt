-- The headline: what is proved of every C text that the checker accepts (Wagner and Dean 2001; Giffin, Jha and Miller 2004).
use Rattle.std.specs.Prelude.{◌≡◌, ℕ, ◌<◌, ◌≤◌, List, length}
use Rattle.dm_base.specs.declared.event.Event.{Event}
use Rattle.dm_base.specs.declared.mode.Mode.TheVariants.{Plain, Instrumented}
use Rattle.dm_base.specs.declared.verdict.Verdict.TheVariants.{Accepted, Rejected, Bound}
use Rattle.dm_base.specs.Trace.{depth, erase, output}
use Rattle.sys_table.specs.declared.sys_result.SysResult.{SysResult}
use Rattle.flow_model.specs.declared.which.Which.{Which}
use Rattle.flow_model.specs.declared.which.Which.TheVariants as which
use Rattle.flow_model.specs.Language.{Reads}
use Rattle.flow_model.specs.Verdict.{IsVerdict}
use Rattle.c_tree.specs.Tree.{Program}
use Rattle.c_meaning.specs.ProgramLanguages.{Dyck, Stack, Callgraph}
use Rattle.c_rules.specs.Accepted.{IsAcceptedAs}
use Rattle.c_meaning.specs.Runs.{Run, run}
use Rattle.c_meaning.specs.Equal.{AreEqual}
use Rattle.c_meaning.specs.GraphOfProgram.{graph_of_program}
use Rattle.null_calls_laws.specs.MarkedRuns.{marked_run}
use Rattle.null_calls_laws.specs.InstrumentedTexts.{instrumented_text}

-- a run does what another one does once null calls are erased
pub record DoesTheSame (marked plain : Run) : Type 0 where
  pub outcome : marked.outcome ≡ plain.outcome
  pub output : output marked.trace ≡ output plain.trace
  pub erased : erase marked.trace ≡ plain.trace

-- the languages of a program stand in each other: Dyck, null calls erased, inside abstract stack inside callgraph
pub record AreNested (p : Program) : Type 0 where
  pub dyck : (t : List Event) → Dyck p t → Stack p (erase t)
  pub stack : (t : List Event) → Stack p t → Callgraph p t

-- the words of a program that a monitor goes by
abbrev pub Words : Which → Program → List Event → Type 0
Words which.Callgraph p t = Callgraph p t
Words which.Stack p t = Stack p t
Words which.Dyck p t = Dyck p t

-- no more calls are open at once than the bound of the monitor allows; only the Dyck monitor has one
abbrev pub IsWithinBound : Which → ℕ → List Event → Type 0
IsWithinBound which.Callgraph bound t = Unit {0}
IsWithinBound which.Stack bound t = Unit {0}
IsWithinBound which.Dyck bound t = depth t ≤ bound

-- What the monitor of w over the program's graph says of a trace: by the contract of a monitor (`flow_model`, Monitor, exact) it answers
-- by `IsVerdict`. It accepts a whole trace exactly where that is a word within the bound; a deeper word gets Bound, at the event that
-- opens one call too many; and no word is rejected.
pub record VerdictIsMembership (w : Which) (p : Program) (bound : ℕ) (t : List Event) : Type 0 where
  pub words : IsVerdict w (graph_of_program p) bound t (Accepted (length t)) → Words w p t × IsWithinBound w bound t
  pub accepted : Words w p t → IsWithinBound w bound t → IsVerdict w (graph_of_program p) bound t (Accepted (length t))
  pub bounded : w ≡ which.Dyck → Words w p t → bound < depth t → (k : ℕ) × IsVerdict w (graph_of_program p) bound t (Bound k)
  pub never_rejected : Words w p t → (k : ℕ) → IsVerdict w (graph_of_program p) bound t (Rejected k) → ⊥

-- What holds of a program p and of the instrumented text of the text that is accepted as p, for all recorded results and bounds of turns.
pub record HoldsOf (p : Program) (instrumented : List ℕ) : Type 0 where
  -- where it has at most 16 MiB the instrumented text is accepted, and whatever program q it is accepted as runs as p does with null calls
  pub accepted : length instrumented ≤ 16777216 → (q : Program) × IsAcceptedAs instrumented Instrumented q
  pub runs : (q : Program) → IsAcceptedAs instrumented Instrumented q → (records : List SysResult) (turns : ℕ) → run q records turns ≡ marked_run p records turns
  -- which is what p does, once null calls are erased
  pub same : (records : List SysResult) (turns : ℕ) → DoesTheSame (marked_run p records turns) (run p records turns)
  -- the models of p contain the trace
  pub contained : (records : List SysResult) (turns : ℕ) → Dyck p (marked_run p records turns).trace
  pub nested : AreNested p
  pub models : (w : Which) → AreEqual (Words w p) (Reads w (graph_of_program p))
  -- and each monitor accepts exactly the words of its model
  pub exact : (w : Which) (bound : ℕ) (t : List Event) → VerdictIsMembership w p bound t

abbrev pub TheHeadline : Type 0
TheHeadline = (text : List ℕ) (p : Program) (reading : IsAcceptedAs text Plain p) → HoldsOf p (instrumented_text p reading.unit)
