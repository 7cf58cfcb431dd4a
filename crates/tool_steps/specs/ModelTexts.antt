-- What commands make of a program: its model, its text, and why there is none.
use Rattle.std.specs.Prelude.{◌≡◌, ◌⊎◌, ℕ, ◌<◌, ◌≤◌, List, length, codes}
use Rattle.c_meaning.specs.ProgramLanguages as programs
use Rattle.c_tree.specs.Tree.{Program}
use Rattle.flow_model.specs.declared.which.Which.TheVariants.{Callgraph, Stack, Dyck}
use Rattle.flow_model.specs.Graph.{Graph}
use Rattle.flow_model.specs.Language.{Reads}
use Rattle.flow_graph.specs.Equal.{AreEqual}
use Rattle.flow_graph.specs.GraphOfProgram.{graph_of_program}
use Rattle.model_file.specs.declared.version.ModelVersion.TheVariants.{Two}
use Rattle.model_file.specs.ModelText.{model_text}
use Rattle.model_file.specs.Refusal.{longest, IsModel}

-- the three languages of the graph are those of the program (Wagner and Dean 2001; Giffin, Jha and Miller 2004)
pub record HasLanguagesOf (p : Program) (g : Graph) : Type 0 where
  pub dyck : AreEqual (programs.Dyck p) (Reads Dyck g)
  pub stack : AreEqual (programs.Stack p) (Reads Stack g)
  pub callgraph : AreEqual (programs.Callgraph p) (Reads Callgraph g)

-- the text is that of the graph in version 2, and is read as this valid model
pub record IsModelText (g : Graph) (text : List ℕ) : Type 0 where
  pub writes : text ≡ model_text Two g
  pub is_model : IsModel text g

-- the text is that of the program's graph, which has its three languages and no more nodes than a model may have
pub record IsModelOf (p : Program) (text : List ℕ) : Type 0 where
  pub few : (graph_of_program p).nodes ≤ 200000
  pub written : IsModelText (graph_of_program p) text
  pub languages : HasLanguagesOf p (graph_of_program p)

-- the line of a program whose model would have more nodes than a model may have
abbrev pub many_nodes : List ℕ
many_nodes = codes "source refused G1\n"

-- the line of a program whose model would have a longer text than a model may have
abbrev pub long_text : List ℕ
long_text = codes "source refused G2\n"

-- the program's model is past a limit, and the line names it; the number of nodes comes first
abbrev pub IsPastLimit : Program → List ℕ → Type 0
IsPastLimit p line =
    ((line ≡ many_nodes) × (200000 < (graph_of_program p).nodes))
    ⊎ ((line ≡ long_text) × ((graph_of_program p).nodes ≤ 200000) × (longest < length (model_text Two (graph_of_program p))))
