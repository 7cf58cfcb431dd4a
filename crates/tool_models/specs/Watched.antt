-- The verdicts of several monitors on the processes of interleaved traces, and what is written of them.
use Rattle.std.specs.Prelude.{◌≡◌, ℕ, List, [], ◌∷◌, ◌++◌, map, flat_map, codes, decimal}
use Rattle.std.specs.List.{AllZip}
use Rattle.dm_base.specs.declared.event.Event.{Event}
use Rattle.dm_base.specs.declared.verdict.Status.{Status}
use Rattle.dm_base.specs.declared.verdict.Verdict.{Verdict}
use Rattle.dm_base.specs.declared.verdict.Verdict.TheVariants.{Accepted, Rejected, Bound}
use Rattle.flow_model.specs.declared.which.Which.{Which}
use Rattle.flow_model.specs.Graph.{Graph}
use Rattle.flow_model.specs.Verdict.{IsVerdict}
use Rattle.report.specs.ProcessLines.{window_lines, sum_text}
use Rattle.report.specs.VerdictLine.{verdict_text, event_at}
use Rattle.trace_file.specs.declared.record.Record.{Record}
use Rattle.trace_file.specs.declared.version.TracesVersion.{TracesVersion}
use Rattle.watch.specs.Own.{own, firsts}
use Rattle.watch.specs.Pasts.{last_kept}
use Rattle.tool_files.specs.Judged.{status_of_all}

-- a process with each of the monitors
abbrev pub asked_of : List Which → ℕ → List (ℕ × Which)
asked_of monitors p = map (λ which. (p, which)) monitors

-- each process with each of the monitors, in the order of the lines
abbrev pub asked_about : List Which → List ℕ → List (ℕ × Which)
asked_about monitors processes = flat_map (asked_of monitors) processes

-- after a rejection the last events of the history that were kept, and after another verdict nothing
abbrev pub window_text : Verdict → List Event → List ℕ
window_text (Accepted n) h = []
window_text (Rejected k) h = window_lines k (last_kept (Rejected k) h)
window_text (Bound k) h = []

-- the process, a space, the line of the verdict on its history, and its window
abbrev pub process_text : ℕ → Which → Verdict → List Event → List ℕ
process_text p which verdict h = decimal p ++ codes " " ++ verdict_text which verdict (event_at h verdict) ++ window_text verdict h

-- the lines of processes and monitors with these verdicts, where each process has its own history
abbrev pub process_lines : (ℕ → List Event) → List (ℕ × Which) → List Verdict → List ℕ
process_lines history [] verdicts = []
process_lines history (q ∷ qs) [] = []
process_lines history (q ∷ qs) (v ∷ vs) = process_text q.0 q.1 v (history q.0) ++ process_lines history qs vs

-- each verdict is that of the monitor on the process's own history
abbrev pub AreOwnVerdicts : Graph → ℕ → (ℕ → List Event) → List (ℕ × Which) → List Verdict → Type 0
AreOwnVerdicts g bound history asked verdicts = AllZip (λ q v. IsVerdict q.1 g bound (history q.0) v) asked verdicts

-- the text has for each process that has a record, in the order of their first records, and for each monitor the line of the verdict on the process's own history, with its window; then the sum of all verdicts; and the status is theirs
pub record AreAllWatched (monitors : List Which) (g : Graph) (bound : ℕ) (version : TracesVersion) (records : List Record) (status : Status) (text : List ℕ) : Type 0 where
  pub verdicts : List Verdict
  pub judged : AreOwnVerdicts g bound (λ p. own version p records) (asked_about monitors (firsts records)) verdicts
  pub ends : status ≡ status_of_all verdicts
  pub writes : text ≡ process_lines (λ p. own version p records) (asked_about monitors (firsts records)) verdicts ++ sum_text verdicts
