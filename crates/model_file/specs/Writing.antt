-- For private contracts and proofs alone: what the types of numbers and names give, whatever the model, and why no model is made of lists.
use Rattle.std.specs.Prelude.{ℕ, ◌<◌, ◌≤◌, List, ◌++◌, All, length, flat_map}
use Rattle.flow_model.specs.Rules.{IsLeastBroken}
use Rattle.model_file.specs.declared.error.ModelError.{ModelError}
use Rattle.model_file.specs.declared.error.ModelError.TheVariants.{OutOfMemory, BadLine, Invalid, Truncated, TooLarge, Version}
use Rattle.flow_model.specs.declared.records.ModelFunction.{ModelFunction}
use Rattle.flow_model.specs.declared.records.SysEdge.{SysEdge}
use Rattle.flow_model.specs.Call.{Call}
use Rattle.flow_model.specs.Graph.{Graph}
use Rattle.model_file.specs.declared.version.ModelVersion.TheVariants.{Two}
use Rattle.model_file.specs.ModelText.{IsSmall, IsSpelledSilent, head_line, functions_line, function_line, nodes_line, silent_line, sys_line, call_line}

pub record HasSmallNodes (one : ModelFunction) : Type 0 where
  pub entry : IsSmall one.entry
  pub exit : IsSmall one.exit

pub record IsSmallSys (e : SysEdge) : Type 0 where
  pub from : IsSmall e.from
  pub name : e.name < 24
  pub to : IsSmall e.to

pub record IsSmallCall (c : Call) : Type 0 where
  pub from : IsSmall c.from
  pub site : IsSmall c.site
  pub to : IsSmall c.to
  pub candidates : All IsSmall c.candidates

pub record HasSmallParts (g : Graph) : Type 0 where
  pub nodes : IsSmall g.nodes
  pub start : IsSmall g.start
  pub functions : All HasSmallNodes g.functions
  pub silent : All IsSpelledSilent g.silent
  pub sys : All IsSmallSys g.sys
  pub calls : All IsSmallCall g.calls

-- why no model is made of lists that are in order and have right patterns: want of memory, or the least rule that they break, 1 to 5
abbrev pub IsBroken : Graph → ModelError → Type 0
IsBroken g OutOfMemory = Unit {0}
IsBroken g (Invalid rule) = IsLeastBroken g rule × (rule ≤ 5)
IsBroken g TooLarge = ⊥
IsBroken g Version = ⊥
IsBroken g (BadLine k) = ⊥
IsBroken g Truncated = ⊥

-- the lines before those of the edges, in version 2
abbrev pub first_lines : Graph → List ℕ
first_lines g = head_line Two ++ functions_line (length g.functions) ++ flat_map function_line g.functions ++ nodes_line g.nodes

-- the lines of the edges, in version 2
abbrev pub edge_lines : Graph → List ℕ
edge_lines g = flat_map silent_line g.silent ++ flat_map (sys_line Two) g.sys ++ flat_map call_line g.calls
