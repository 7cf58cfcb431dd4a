-- What `depth MODEL` makes of its file. It refuses the file where it is no model.
use Rattle.std.specs.Prelude.{◌≡◌, ℕ, List, ◌∷◌, ◌++◌, flat_map, Option, IsSomeAnd, codes, decimal}
use Rattle.dm_io.specs.Store.{Files, file_at}
use Rattle.flow_model.specs.Graph.{Graph}
use Rattle.inline_model.specs.declared.depths.Depth.{Depth}
use Rattle.inline_model.specs.declared.depths.Depth.TheVariants.{Greatest, Unbounded}
use Rattle.inline_model.specs.Depth.{HasLength, HasCycle, HasDepth}
use Rattle.model_file.specs.Refusal.{IsModel}
use Rattle.tool_files.specs.Inputs.{IsAModel}

-- each site with a space, byte 32, before it
abbrev pub site_words : List ℕ → List ℕ
site_words sites = flat_map (λ s. 32 ∷ decimal s) sites

-- the line of a depth
abbrev pub depth_text : Depth → List ℕ
depth_text (Greatest n) = codes "depth " ++ (decimal n ++ codes "\n")
depth_text (Unbounded first cycle) = codes "unbounded" ++ (site_words first ++ (codes " cycle" ++ (site_words cycle ++ codes "\n")))

-- the text is that of the depth of the file's model
pub record TellsDepth (files : Files) (name text : List ℕ) : Type 0 where
  pub graph : Graph
  pub depth : Depth
  pub is_model : IsModel (file_at files name) graph
  pub length : HasLength graph depth
  pub cycle : HasCycle graph depth
  pub words : HasDepth graph depth
  pub is : text ≡ depth_text depth

-- the file is told, and is a model
abbrev pub IsReadyToTellDepth : Option Files → List ℕ → Type 0
IsReadyToTellDepth files name = IsSomeAnd files (λ told. IsAModel told name)
