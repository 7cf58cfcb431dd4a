-- For private contracts and proofs alone: why a model is not inlined.
use Rattle.std.specs.Prelude.{◌≡◌, ℕ, List}
use Rattle.flow_model.specs.Graph.{Graph}
use Rattle.tool_frame.specs.declared.stop.Stop.{Stop}
use Rattle.tool_frame.specs.declared.stop.Stop.TheVariants as stops
use Rattle.tool_reading.specs.Inline.{IsNotInlined}

-- the stop refuses a model by a line that P holds of, or memory was refused
abbrev pub IsStopBy : (List ℕ → Type 0) → Stop → Type 0
IsStopBy P stops.Usage = ⊥
IsStopBy P (stops.Source line) = ⊥
IsStopBy P (stops.Model line) = P line.items
IsStopBy P (stops.Record line) = ⊥
IsStopBy P stops.Read = ⊥
IsStopBy P stops.Write = ⊥
IsStopBy P stops.OutOfMemory = Unit {0}

-- the stop with this line
abbrev pub IsStopWith : Stop → List ℕ → Type 0
IsStopWith stop text = IsStopBy (λ line. line ≡ text) stop

-- why the model is not inlined
abbrev pub StopsInlining : Stop → Graph → Type 0
StopsInlining stop g = IsStopBy (IsNotInlined g) stop
