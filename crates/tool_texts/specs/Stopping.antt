-- For private contracts and proofs alone: the stop of a text that is refused.
use Rattle.std.specs.Prelude.{◌≡◌, ◌≢◌, ℕ, List}
use Rattle.tool_texts.specs.Explained.{explanation}
use Rattle.tool_frame.specs.declared.stop.Stop.{Stop}
use Rattle.tool_frame.specs.declared.stop.Stop.TheVariants as stops
use Rattle.tool_texts.specs.SourceError.{SourceError}
use Rattle.tool_texts.specs.SourceError.TheVariants as errors

-- the stop of a text of a file that was refused so
abbrev pub IsStopOfExplained : Stop → List ℕ → List ℕ → SourceError → Type 0
IsStopOfExplained stops.Usage name text error = ⊥
IsStopOfExplained (stops.Source lines) name text error = (error ≢ errors.OutOfMemory) × (lines.items ≡ explanation name text error)
IsStopOfExplained (stops.Model lines) name text error = ⊥
IsStopOfExplained (stops.Record lines) name text error = ⊥
IsStopOfExplained stops.Read name text error = ⊥
IsStopOfExplained stops.Write name text error = ⊥
IsStopOfExplained stops.OutOfMemory name text error = Unit {0}
