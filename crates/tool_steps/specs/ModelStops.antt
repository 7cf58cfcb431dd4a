-- For private contracts and proofs alone: why the model of a program is not written.
use Rattle.std.specs.Prelude.{◌≡◌, ℕ, ◌<◌, List, length}
use Rattle.c_tree.specs.Tree.{Program}
use Rattle.flow_model.specs.Graph.{Graph}
use Rattle.flow_graph.specs.GraphOfProgram.{graph_of_program}
use Rattle.model_file.specs.declared.version.ModelVersion.TheVariants.{Two}
use Rattle.model_file.specs.ModelText.{model_text}
use Rattle.model_file.specs.Refusal.{longest}
use Rattle.tool_frame.specs.declared.stop.Stop.{Stop}
use Rattle.tool_frame.specs.declared.stop.Stop.TheVariants as stops
use Rattle.tool_steps.specs.ModelTexts.{IsPastLimit, many_nodes, long_text}

-- the stop refuses a text by a line that P holds of, or memory was refused
abbrev pub IsStopBy : (List ℕ → Type 0) → Stop → Type 0
IsStopBy P stops.Usage = ⊥
IsStopBy P (stops.Source line) = P line.items
IsStopBy P (stops.Model line) = ⊥
IsStopBy P (stops.Record line) = ⊥
IsStopBy P stops.Read = ⊥
IsStopBy P stops.Write = ⊥
IsStopBy P stops.OutOfMemory = Unit {0}

-- the stop with this line
abbrev pub IsStopWith : Stop → List ℕ → Type 0
IsStopWith stop text = IsStopBy (λ line. line ≡ text) stop

-- why no model was made
abbrev pub StopsBuilding : Stop → Program → Type 0
StopsBuilding stop p = IsStopBy (λ line. (line ≡ many_nodes) × (200000 < (graph_of_program p).nodes)) stop

-- why a model was not written
abbrev pub StopsWriting : Stop → Graph → Type 0
StopsWriting stop g = IsStopBy (λ line. (line ≡ long_text) × (longest < length (model_text Two g))) stop

-- why no text was made of a program's model
abbrev pub StopsModelling : Stop → Program → Type 0
StopsModelling stop p = IsStopBy (IsPastLimit p) stop
