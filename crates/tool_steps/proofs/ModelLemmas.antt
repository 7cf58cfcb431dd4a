-- The model of a program, made and written or refused.
use Rattle.std.proofs.Common.{◌≡◌, ℕ, ◌<◌, ◌≤◌, List, length, inl, inr, subst}
use Rattle.c_tree.specs.Tree.{Program}
use Rattle.flow_model.specs.Graph.{Graph}
use Rattle.flow_graph.specs.GraphOfProgram.{graph_of_program}
use Rattle.model_file.specs.declared.version.ModelVersion.TheVariants.{Two}
use Rattle.model_file.specs.ModelText.{model_text}
use Rattle.model_file.specs.Refusal.{longest}
use Rattle.tool_frame.specs.declared.stop.Stop.{Stop}
use Rattle.tool_frame.specs.declared.stop.Stop.TheVariants as stops
use Rattle.tool_steps.specs.declared.source.Source.{Source}
use Rattle.tool_steps.specs.ModelTexts.{HasLanguagesOf, IsModelText, IsModelOf, IsPastLimit, many_nodes, long_text}
use Rattle.tool_steps.specs.ModelStops.{IsStopBy, StopsBuilding, StopsModelling, StopsWriting}

pub stop_by : (P Q : List ℕ → Type 0) (stop : Stop) → ((line : List ℕ) → P line → Q line) → IsStopBy P stop → IsStopBy Q stop
stop_by P Q stops.Usage on why = why
stop_by P Q (stops.Source line) on why = on line.items why
stop_by P Q (stops.Model line) on why = why
stop_by P Q (stops.Record line) on why = why
stop_by P Q stops.Read on why = why
stop_by P Q stops.Write on why = why
stop_by P Q stops.OutOfMemory on why = tt

pub model_made : (p : Program) (g : Graph) (text : List ℕ) → g ≡ graph_of_program p → (graph_of_program p).nodes ≤ 200000 → IsModelText g text → HasLanguagesOf p g → IsModelOf p text
model_made p g text same few is languages = record {
  few = few;
  written = subst (λ (h : Graph). IsModelText h text) same is;
  languages = subst (HasLanguagesOf p) same languages;
}

pub stops_building : (stop : Stop) (p : Program) → StopsBuilding stop p → StopsModelling stop p
stops_building stop p =
    stop_by (λ (line : List ℕ). (line ≡ many_nodes) × (200000 < (graph_of_program p).nodes)) (IsPastLimit p) stop (λ line past. inl past)

pub stops_writing : (stop : Stop) (p : Program) (g : Graph) → g ≡ graph_of_program p → (graph_of_program p).nodes ≤ 200000 → StopsWriting stop g → StopsModelling stop p
stops_writing stop p g same few =
    stop_by (λ (line : List ℕ). (line ≡ long_text) × (longest < length (model_text Two g))) (IsPastLimit p) stop
    (λ line past. inr (past.0, few, subst (λ (h : Graph). longest < length (model_text Two h)) same past.1))
