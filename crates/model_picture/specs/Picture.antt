-- The picture of a model: a graph in the DOT language of Graphviz.
use Rattle.std.specs.Prelude.{◌-◌, ℕ, Bool, true, false, List, [], ◌∷◌, ◌++◌, Option, None, Some, codes, decimal, flat_map, length, nat_eq, option_map, slice_get, unwrap_or}
use Rattle.std.specs.List.{range_with_len}
use Rattle.flow_model.specs.declared.records.ModelFunction.{ModelFunction}
use Rattle.flow_model.specs.declared.records.SilentEdge.{SilentEdge}
use Rattle.flow_model.specs.declared.records.SysEdge.{SysEdge}
use Rattle.flow_model.specs.Call.{Call}
use Rattle.flow_model.specs.Graph.{Graph, end_of}
use Rattle.model_file.specs.ModelText.{entries_text}
use Rattle.sys_table.specs.Table.{name_of}

-- how a node is drawn, by whether it is the entry of its function and whether it is the exit
abbrev pub node_style : Bool → Bool → List ℕ
node_style true true = codes " [shape=doublecircle,style=filled]"
node_style true false = codes " [style=filled]"
node_style false true = codes " [shape=doublecircle]"
node_style false false = []

-- the line of a node of the function
abbrev pub node_line : ModelFunction → ℕ → List ℕ
node_line one a = decimal a ++ node_style (nat_eq a one.entry) (nat_eq a one.exit) ++ 10 ∷ []

-- how the subgraph of a function is drawn, by whether a run enters that function
abbrev pub start_style : Bool → List ℕ
start_style true = codes "penwidth=3\n"
start_style false = []

-- the first lines of a function, by its number, by whether a run enters it and by its name
abbrev pub function_head : ℕ → Bool → List ℕ → List ℕ
function_head number starts name = codes "subgraph cluster_" ++ decimal number ++ codes " {\nlabel=\"" ++ name ++ codes "\"\n" ++ start_style starts

-- the lines of the function with this number, by whether a run enters it and by the first node past its own: its name and its nodes in order
abbrev pub function_lines : ℕ → Bool → ℕ → ModelFunction → List ℕ
function_lines number starts past one =
    function_head number starts one.name ++ flat_map (node_line one) (range_with_len one.entry (past - one.entry)) ++ codes "}\n"

abbrev pub subgraph_where : Graph → ℕ → Option ModelFunction → List ℕ
subgraph_where g number None = []
subgraph_where g number (Some one) = function_lines number (nat_eq number g.start) (end_of g.functions g.nodes number) one

-- the lines of the function with this number
abbrev pub subgraph : Graph → ℕ → List ℕ
subgraph g number = subgraph_where g number (slice_get g.functions number)

-- an arrow from a node to a node
abbrev pub arrow : ℕ → ℕ → List ℕ
arrow from to = decimal from ++ codes " -> " ++ decimal to

abbrev pub silent_arrow : SilentEdge → List ℕ
silent_arrow e = arrow e.from e.to ++ codes " [style=dotted]\n"

-- an arrow with the name of the system call, and with a space and each entry of the pattern as in version 2 of model files
abbrev pub sys_arrow : SysEdge → List ℕ
sys_arrow e = arrow e.from e.to ++ codes " [label=\"" ++ name_of e.name ++ entries_text e.args ++ codes "\"]\n"

-- the name of the function with this number
abbrev pub name_at : List ModelFunction → ℕ → List ℕ
name_at functions f = unwrap_or (option_map (λ one. one.name) (slice_get functions f)) []

-- an arrow with the site, and with a space and the name of each candidate
abbrev pub call_arrow : List ModelFunction → Call → List ℕ
call_arrow functions c =
    arrow c.from c.to ++ codes " [style=dashed,label=\"" ++ decimal c.site ++ codes ":" ++ flat_map (λ f. 32 ∷ name_at functions f) c.candidates ++ codes "\"]\n"

abbrev pub head_lines : List ℕ
head_lines = codes "digraph dyckmon {\nrankdir=LR\nnode [shape=circle,fontsize=9]\n"

abbrev pub last_line : List ℕ
last_line = codes "}\n"

-- the functions in order, and then the edges in the order of the model's text
abbrev pub picture : Graph → List ℕ
picture g =
    head_lines ++ flat_map (subgraph g) (range_with_len 0 (length g.functions)) ++ flat_map silent_arrow g.silent ++ flat_map sys_arrow g.sys
    ++ flat_map (call_arrow g.functions) g.calls ++ last_line
