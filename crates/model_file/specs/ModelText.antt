-- The text of a model, and which lists have one.
use Rattle.std.specs.Prelude.{◌≡◌, ℕ, ◌<◌, ◌^◌, List, [], ◌∷◌, ◌++◌, Option, None, Some, ℤ, All, length, flat_map, codes, decimal}
use Rattle.std.specs.Fmt.{signed_decimal}
use Rattle.std.specs.Ordering.{nat_cmp}
use Rattle.dm_base.specs.Name.{IsName}
use Rattle.sys_table.specs.Table.{name_of, IsRight}
use Rattle.flow_model.specs.declared.records.ModelFunction.{ModelFunction}
use Rattle.flow_model.specs.declared.records.SilentEdge.{SilentEdge}
use Rattle.flow_model.specs.declared.records.SysEdge.{SysEdge}
use Rattle.flow_model.specs.Call.{Call}
use Rattle.flow_model.specs.Graph.{Graph}
use Rattle.flow_model.specs.Order.{StrictlyRise}
use Rattle.flow_model.specs.Rules.{IsInOrder}
use Rattle.model_file.specs.declared.version.ModelVersion.{ModelVersion}
use Rattle.model_file.specs.declared.version.ModelVersion.TheVariants.{One, Two}

abbrev pub head_line : ModelVersion → List ℕ
head_line One = codes "dyckmon-model 1\n"
head_line Two = codes "dyckmon-model 2\n"

abbrev pub functions_line : ℕ → List ℕ
functions_line count = codes "functions " ++ decimal count ++ 10 ∷ []

abbrev pub function_line : ModelFunction → List ℕ
function_line one = codes "f " ++ one.name ++ 32 ∷ decimal one.entry ++ 32 ∷ decimal one.exit ++ 10 ∷ []

abbrev pub nodes_line : ℕ → List ℕ
nodes_line nodes = codes "nodes " ++ decimal nodes ++ 10 ∷ []

abbrev pub silent_line : SilentEdge → List ℕ
silent_line e = codes "e " ++ decimal e.from ++ 32 ∷ decimal e.to ++ 10 ∷ []

-- an entry of a pattern: `*` for any value
abbrev pub entry_text : Option ℤ → List ℕ
entry_text None = codes "*"
entry_text (Some n) = signed_decimal n

-- a space and the entry, for each entry
abbrev pub entries_text : List (Option ℤ) → List ℕ
entries_text entries = flat_map (λ entry. 32 ∷ entry_text entry) entries

-- in version 2 the entries of the pattern follow the second node
abbrev pub pattern_text : ModelVersion → List (Option ℤ) → List ℕ
pattern_text One entries = []
pattern_text Two entries = entries_text entries

abbrev pub sys_line : ModelVersion → SysEdge → List ℕ
sys_line version e = codes "s " ++ decimal e.from ++ 32 ∷ name_of e.name ++ 32 ∷ decimal e.to ++ pattern_text version e.args ++ 10 ∷ []

abbrev pub call_line : Call → List ℕ
call_line c = codes "c " ++ decimal c.from ++ 32 ∷ decimal c.site ++ 32 ∷ decimal c.to ++ flat_map (λ f. 32 ∷ decimal f) c.candidates ++ 10 ∷ []

abbrev pub start_line : ℕ → List ℕ
start_line start = codes "start " ++ decimal start ++ 10 ∷ []

-- the lines from the start on
abbrev pub ending : ℕ → List ℕ
ending start = start_line start ++ codes "end\n"

-- the one text of these lists in this version
abbrev pub model_text : ModelVersion → Graph → List ℕ
model_text version g =
    head_line version ++ functions_line (length g.functions) ++ flat_map function_line g.functions ++ nodes_line g.nodes
    ++ flat_map silent_line g.silent ++ flat_map (sys_line version) g.sys ++ flat_map call_line g.calls ++ ending g.start

-- a number that a line may hold
abbrev pub IsSmall : ℕ → Type 0
IsSmall n = n < 2 ^ 32

pub record IsSpelledFunction (one : ModelFunction) : Type 0 where
  pub name : IsName one.name
  pub entry : IsSmall one.entry
  pub exit : IsSmall one.exit

pub record IsSpelledSilent (e : SilentEdge) : Type 0 where
  pub from : IsSmall e.from
  pub to : IsSmall e.to

-- version 1 has patterns that take any value alone
abbrev pub HasPattern : ModelVersion → List (Option ℤ) → Type 0
HasPattern One entries = All (λ entry. entry ≡ None) entries
HasPattern Two entries = Unit {0}

pub record IsSpelledSys (version : ModelVersion) (e : SysEdge) : Type 0 where
  pub from : IsSmall e.from
  pub name : e.name < 24
  pub to : IsSmall e.to
  pub right : IsRight e.name e.args
  pub pattern : HasPattern version e.args

pub record IsSpelledCall (c : Call) : Type 0 where
  pub from : IsSmall c.from
  pub site : IsSmall c.site
  pub to : IsSmall c.to
  pub candidates : All IsSmall c.candidates
  pub rise : StrictlyRise nat_cmp c.candidates

-- the lists have a text: their numbers and names are such as lines may hold, and the edges and candidates strictly increase
pub record IsSpelled (version : ModelVersion) (g : Graph) : Type 0 where
  pub nodes : IsSmall g.nodes
  pub start : IsSmall g.start
  pub count : IsSmall (length g.functions)
  pub functions : All IsSpelledFunction g.functions
  pub silent : All IsSpelledSilent g.silent
  pub sys : All (IsSpelledSys version) g.sys
  pub calls : All IsSpelledCall g.calls
  pub order : IsInOrder g

-- the text is that of the lists
pub record IsModelText (version : ModelVersion) (text : List ℕ) (g : Graph) : Type 0 where
  pub spelled : IsSpelled version g
  pub is : text ≡ model_text version g

-- the text is that of some lists
abbrev pub IsFormedModel : List ℕ → Type 0
IsFormedModel text = (version : ModelVersion) × (g : Graph) × IsModelText version text g
