-- The commands `model`, `run` and `judge` together: no false alarm (Wagner and Dean 2001).
use Rattle.std.specs.Prelude.{◌≡◌, ℕ, List}
use Rattle.dm_base.specs.declared.verdict.Status.{Status}
use Rattle.dm_base.specs.declared.verdict.Status.TheVariants.{Done}
use Rattle.dm_io.specs.Store.{Files, file_at}
use Rattle.tool_monitors.specs.declared.asked.Asked.{Asked}
use Rattle.tool_monitors.specs.declared.asked.Asked.TheVariants as asked
use Rattle.tool_models.specs.Judge.{Judges}
use Rattle.tool_monitors.specs.Monitors.{monitors_of}
use Rattle.tool_texts.specs.Run.{Runs}
use Rattle.tool_texts.specs.Modelled.{Models}

-- the callgraph monitor or the stack monitor is asked for
abbrev pub ReadsPlainTraces : Asked → Type 0
ReadsPlainTraces asked.Callgraph = Unit {0}
ReadsPlainTraces asked.Stack = Unit {0}
ReadsPlainTraces asked.Dyck = ⊥
ReadsPlainTraces asked.All = ⊥

-- where one file has the model of a text and another the trace of a run of that text, what is judged of them is accepted
abbrev pub JudgedRunsAreAccepted : Type 0
JudgedRunsAreAccepted =
    (files : Files) (source results : List ℕ) (turns : ℕ) (model trace : List ℕ) → Models files source model → Runs files source results turns trace
    → (later : Files) (m t : List ℕ) → file_at later m ≡ model → file_at later t ≡ trace
    → (which : Asked) → ReadsPlainTraces which → (bound : ℕ) (status : Status) (text : List ℕ) → Judges later m t (monitors_of which) bound status text → status ≡ Done
