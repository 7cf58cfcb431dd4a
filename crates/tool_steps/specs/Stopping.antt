-- Why a text was not read, and the stop that says so.
use Rattle.std.specs.Prelude.{◌≡◌, ◌≢◌}
use Rattle.tool_frame.specs.declared.stop.Stop.{Stop}
use Rattle.tool_frame.specs.declared.stop.Stop.TheVariants as stops
use Rattle.tool_steps.specs.declared.error.SourceError.{SourceError}
use Rattle.tool_steps.specs.declared.error.SourceError.TheVariants as errors
use Rattle.tool_steps.specs.Sources.{source_refusal}

-- the stop of a text that was refused so
abbrev pub IsStopOfSource : Stop → SourceError → Type 0
IsStopOfSource stops.Usage error = ⊥
IsStopOfSource (stops.Source line) error = (error ≢ errors.OutOfMemory) × (line.items ≡ source_refusal error)
IsStopOfSource (stops.Model line) error = ⊥
IsStopOfSource (stops.Record line) error = ⊥
IsStopOfSource stops.Read error = ⊥
IsStopOfSource stops.Write error = ⊥
IsStopOfSource stops.OutOfMemory error = Unit {0}
