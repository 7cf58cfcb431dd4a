-- For private contracts and proofs alone: the stop of an instrumented text that would be too long.
use Rattle.std.specs.Prelude.{◌≡◌, ℕ, List}
use Rattle.tool_frame.specs.declared.stop.Stop.{Stop}
use Rattle.tool_frame.specs.declared.stop.Stop.TheVariants as stops

-- the stop with this line, or memory was refused
abbrev pub IsStopWith : Stop → List ℕ → Type 0
IsStopWith stops.Usage text = ⊥
IsStopWith (stops.Source line) text = line.items ≡ text
IsStopWith (stops.Model line) text = ⊥
IsStopWith (stops.Record line) text = ⊥
IsStopWith stops.Read text = ⊥
IsStopWith stops.Write text = ⊥
IsStopWith stops.OutOfMemory text = Unit {0}
