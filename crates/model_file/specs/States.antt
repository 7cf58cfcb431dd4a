-- For private contracts and proofs alone: what may follow the lines of a model that were read.
use Rattle.std.specs.Prelude.{◌≡◌, ℕ, List, [], ◌∷◌, ◌++◌, Option, None, Some, length, flat_map, codes}
use Rattle.flow_model.specs.declared.records.ModelFunction.{ModelFunction}
use Rattle.flow_model.specs.declared.records.SilentEdge.{SilentEdge}
use Rattle.flow_model.specs.declared.records.SysEdge.{SysEdge}
use Rattle.flow_model.specs.Built.{Records, graph_of_records}
use Rattle.flow_model.specs.Call.{Call}
use Rattle.flow_model.specs.Graph.{Graph}
use Rattle.model_file.specs.declared.lines.ModelLine.{ModelLine}
use Rattle.model_file.specs.declared.lines.ModelLine.TheVariants as lines
use Rattle.model_file.specs.declared.lines.Section.{Section}
use Rattle.model_file.specs.declared.lines.Section.TheVariants as sections
use Rattle.model_file.specs.declared.version.ModelVersion.{ModelVersion}
use Rattle.model_file.specs.ModelText.{functions_line, function_line, nodes_line, silent_line, sys_line, call_line, ending, IsSpelled, IsModelText}
use Rattle.model_file.specs.Progress.{Spelling, Spells}

-- the lines from the call edges on
abbrev pub calls_text : Graph → List ℕ
calls_text g = flat_map call_line g.calls ++ ending g.start

-- the lines from the system-call edges on
abbrev pub sys_text : ModelVersion → Graph → List ℕ
sys_text v g = flat_map (sys_line v) g.sys ++ calls_text g

-- the lines from the silent edges on
abbrev pub edges_text : ModelVersion → Graph → List ℕ
edges_text v g = flat_map silent_line g.silent ++ sys_text v g

-- what is told of the lists of a spelling in the version
abbrev pub Fixed : ModelVersion → (Graph → List ℕ → Type 0) → Spelling → List ℕ → Type 0
Fixed v At m w = (m.version ≡ v) × At m.graph w

-- the number of functions follows
pub record AtCount (v : ModelVersion) (g : Graph) (w : List ℕ) : Type 0 where
  pub spelled : IsSpelled v g
  pub rest : w ≡ functions_line (length g.functions) ++ (flat_map function_line g.functions ++ (nodes_line g.nodes ++ edges_text v g))

-- of so many functions these were read
pub record AtFunctions (v : ModelVersion) (count : ℕ) (read : List ModelFunction) (g : Graph) (w : List ℕ) : Type 0 where
  pub spelled : IsSpelled v g
  pub long : length g.functions ≡ count
  pub more : List ModelFunction
  pub functions : g.functions ≡ read ++ more
  pub rest : w ≡ flat_map function_line more ++ (nodes_line g.nodes ++ edges_text v g)

-- more silent edges may follow those that were read
pub record MoreSilent (v : ModelVersion) (given : Records) (g : Graph) (w : List ℕ) : Type 0 where
  pub more : List SilentEdge
  pub silent : g.silent ≡ given.silent ++ more
  pub rest : w ≡ flat_map silent_line more ++ sys_text v g

-- more system-call edges may follow those that were read
pub record MoreSys (v : ModelVersion) (given : Records) (g : Graph) (w : List ℕ) : Type 0 where
  pub silent : g.silent ≡ given.silent
  pub more : List SysEdge
  pub sys : g.sys ≡ given.sys ++ more
  pub rest : w ≡ flat_map (sys_line v) more ++ calls_text g

-- more call edges may follow those that were read
pub record MoreCalls (given : Records) (g : Graph) (w : List ℕ) : Type 0 where
  pub silent : g.silent ≡ given.silent
  pub sys : g.sys ≡ given.sys
  pub more : List Call
  pub calls : g.calls ≡ given.calls ++ more
  pub rest : w ≡ flat_map call_line more ++ ending g.start

abbrev pub More : ModelVersion → Records → Section → Graph → List ℕ → Type 0
More v given (sections.Silent last) g w = MoreSilent v given g w
More v given (sections.Sys last) g w = MoreSys v given g w
More v given (sections.Call last) g w = MoreCalls given g w

-- the functions, the number of nodes, and these edges were read, the last of them in this section
pub record AtEdges (v : ModelVersion) (given : Records) (n : ℕ) (section : Section) (g : Graph) (w : List ℕ) : Type 0 where
  pub spelled : IsSpelled v g
  pub functions : g.functions ≡ given.functions
  pub nodes : g.nodes ≡ n
  pub left : More v given section g w

-- all but the last line was read
pub record AtEnd (v : ModelVersion) (given : Records) (n start : ℕ) (g : Graph) (w : List ℕ) : Type 0 where
  pub spelled : IsSpelled v g
  pub is : g ≡ graph_of_records given n start
  pub rest : w ≡ codes "end\n"

-- the whole was read
pub record AtLast (v : ModelVersion) (given : Records) (n start : ℕ) (g : Graph) (w : List ℕ) : Type 0 where
  pub spelled : IsSpelled v g
  pub is : g ≡ graph_of_records given n start
  pub rest : w ≡ []

-- the last item, or none where there are no items
abbrev pub IsLastOf : {X : Type 0} → Option X → List X → Type 0
IsLastOf None xs = xs ≡ []
IsLastOf {X} (Some d) xs = (front : List X) × (xs ≡ front ++ d ∷ [])

-- the site of the last call edge
abbrev pub IsLastSite : Option ℕ → List Call → Type 0
IsLastSite None cs = cs ≡ []
IsLastSite (Some site) cs = (front : List Call) × (c : Call) × (cs ≡ front ++ c ∷ []) × (c.site ≡ site)

-- the section's last edge is the last one that was read, and no edges of later sections were
abbrev pub IsLast : Section → Records → Type 0
IsLast (sections.Silent last) given = IsLastOf last given.silent × (given.sys ≡ []) × (given.calls ≡ [])
IsLast (sections.Sys last) given = IsLastOf last given.sys × (given.calls ≡ [])
IsLast (sections.Call last) given = IsLastSite last given.calls

-- a silent edge more
abbrev pub with_silent : SilentEdge → Records → Records
with_silent e given = record given { silent = given.silent ++ e ∷ [] }

abbrev pub with_sys : SysEdge → Records → Records
with_sys e given = record given { sys = given.sys ++ e ∷ [] }

abbrev pub with_call : Call → Records → Records
with_call c given = record given { calls = given.calls ++ c ∷ [] }

-- the section in which the line stands; for that of the start function, the one before it
abbrev pub section_after : Section → ModelLine → Section
section_after section (lines.Silent e) = sections.Silent (Some e)
section_after section (lines.Sys e) = sections.Sys (Some e)
section_after section (lines.Call c) = sections.Call (Some c.site)
section_after section (lines.Start start) = section

-- with the edge of the line
abbrev pub with_line : ModelLine → Records → Records
with_line (lines.Silent e) given = with_silent e given
with_line (lines.Sys e) given = with_sys e given
with_line (lines.Call c) given = with_call c given
with_line (lines.Start start) given = given

-- the start function, where the line is its line
abbrev pub start_of : ModelLine → Option ℕ
start_of (lines.Silent e) = None
start_of (lines.Sys e) = None
start_of (lines.Call c) = None
start_of (lines.Start start) = Some start

-- what may follow the line of an edge, or of the start function
abbrev pub AfterLine : ModelVersion → Records → ℕ → ModelLine → Graph → List ℕ → Type 0
AfterLine v given n (lines.Silent e) = AtEdges v (with_silent e given) n (sections.Silent (Some e))
AfterLine v given n (lines.Sys e) = AtEdges v (with_sys e given) n (sections.Sys (Some e))
AfterLine v given n (lines.Call c) = AtEdges v (with_call c given) n (sections.Call (Some c.site))
AfterLine v given n (lines.Start start) = AtEnd v given n start

-- what may follow a line among the edges: a further one, or the last line, where the start function was read
abbrev pub AfterEdge : ModelVersion → Records → ℕ → Section → Option ℕ → Graph → List ℕ → Type 0
AfterEdge v given n section None = AtEdges v given n section
AfterEdge v given n section (Some start) = AtEnd v given n start

-- the text is that of these lists in the version, and of no others
pub record IsReadAs (text : List ℕ) (v : ModelVersion) (g : Graph) : Type 0 where
  pub spells : IsModelText v text g
  pub only : (m : Spelling) → Spells m text → m.graph ≡ g
