-- For private contracts and proofs alone: what was found of processes so far.
use Rattle.std.specs.Prelude.{◌≡◌, ℕ, List}
use Rattle.dm_base.specs.declared.event.Event.{Event}
use Rattle.flow_model.specs.declared.which.Which.{Which}
use Rattle.flow_model.specs.Graph.{Graph}
use Rattle.tool_models.specs.declared.findings.Findings.{Findings}
use Rattle.tool_models.specs.Watched.{AreOwnVerdicts, process_lines}

-- the verdicts of these processes and monitors were found, and their lines are the text
pub record AreFound (g : Graph) (bound : ℕ) (history : ℕ → List Event) (asked : List (ℕ × Which)) (found : Findings) : Type 0 where
  pub judged : AreOwnVerdicts g bound history asked found.verdicts.items
  pub writes : found.text.items ≡ process_lines history asked found.verdicts.items
