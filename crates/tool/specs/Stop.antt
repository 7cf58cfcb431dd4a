-- What the work of the words comes to: a text that was made, or why nothing was written.
use Rattle.std.specs.Prelude.{◌⊎◌, ℕ, List, Option}
use Rattle.dm_base.specs.declared.verdict.Status.{Status}
use Rattle.dm_base.specs.declared.verdict.Status.TheVariants as statuses
use Rattle.dm_io.specs.Faults.{Rose}
use Rattle.dm_io.specs.Store.{Files}
use Rattle.tool_frame.specs.declared.stop.Stop.{Stop}
use Rattle.tool_frame.specs.declared.stop.Stop.TheVariants as stops
use Rattle.tool_words.specs.Command.{Command, IsCommandLine}
use Rattle.tool.specs.Commands.{Makes, Refuses, ReadsFiles, Lacks}

-- some command of the words makes this text with this status
abbrev pub IsWorked : List (List ℕ) → Option Files → Status → List ℕ → Type 0
IsWorked words files status text = (c : Command) × IsCommandLine c words × Makes c files status text

-- why the work of the words stopped
abbrev pub HasStop : Stop → List (List ℕ) → Option Files → ℕ → ℕ → Type 0
HasStop stops.Usage words files before after = ((c : Command) × IsCommandLine c words) → ⊥
HasStop (stops.Source line) words files before after = (c : Command) × IsCommandLine c words × Refuses c files statuses.SourceRefused line.items
HasStop (stops.Model line) words files before after = (c : Command) × IsCommandLine c words × Refuses c files statuses.ModelRefused line.items
HasStop (stops.Record line) words files before after = (c : Command) × IsCommandLine c words × Refuses c files statuses.RecordRefused line.items
HasStop stops.Read words files before after = (((c : Command) × IsCommandLine c words × ReadsFiles c) × Rose before after) ⊎ ((c : Command) × IsCommandLine c words × Lacks c files)
HasStop stops.Write words files before after = ⊥
HasStop stops.OutOfMemory words files before after = (c : Command) × IsCommandLine c words
