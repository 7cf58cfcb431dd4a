-- The graph of a program's shapes.
use Rattle.std.specs.Prelude.{ℕ, ◌+◌, List, [], ◌∷◌, ◌++◌}
use Rattle.std.specs.Ordering.{nat_cmp}
use Rattle.c_meaning.specs.Shape.{Shape, Shapes}
use Rattle.c_meaning.specs.Walks.{Silent, System, Site}
use Rattle.flow_model.specs.declared.records.ModelFunction.{ModelFunction}
use Rattle.flow_model.specs.declared.records.SilentEdge.{SilentEdge}
use Rattle.flow_model.specs.declared.records.SysEdge.{SysEdge}
use Rattle.flow_model.specs.Call.{Call}
use Rattle.flow_model.specs.Graph.{Graph}
use Rattle.flow_model.specs.Order.{silent_order, sys_order, site_order}
use Rattle.c_meaning.specs.GraphLayout.{Edge, edge, ends, width, edges}
use Rattle.c_meaning.specs.Sorted.{sorted}

-- the edges along which nothing is read
abbrev pub silent_edges : List Edge → List SilentEdge
silent_edges [] = []
silent_edges (edge a Silent b ∷ es) = record { from = a; to = b } ∷ silent_edges es
silent_edges (edge a (System x q) b ∷ es) = silent_edges es
silent_edges (edge a (Site s) b ∷ es) = silent_edges es

-- the edges along which a system call is read
abbrev pub sys_edges : List Edge → List SysEdge
sys_edges [] = []
sys_edges (edge a Silent b ∷ es) = sys_edges es
sys_edges (edge a (System x q) b ∷ es) = record { from = a; name = x; to = b; args = q } ∷ sys_edges es
sys_edges (edge a (Site s) b ∷ es) = sys_edges es

-- the calls at sites, with their candidates in order
abbrev pub calls : (ℕ → List ℕ) → List Edge → List Call
calls candidates [] = []
calls candidates (edge a Silent b ∷ es) = calls candidates es
calls candidates (edge a (System x q) b ∷ es) = calls candidates es
calls candidates (edge a (Site s) b ∷ es) =
    record { from = a; site = s; to = b; candidates = sorted nat_cmp (candidates s) } ∷ calls candidates es

-- the functions with these names, whose nodes begin with n: each makes its entry, then its exit, then its shape's fresh nodes
abbrev pub functions_from : ℕ → List (List ℕ) → List Shape → List ModelFunction
functions_from n [] shapes = []
functions_from n (name ∷ names) [] = []
functions_from n (name ∷ names) (S ∷ shapes) =
    record { name = name; entry = n; exit = n + 1 } ∷ functions_from (n + 2 + width S) names shapes

-- their edges: each shape is laid from the function's entry to its exit, where returns lead too
abbrev pub edges_from : ℕ → List Shape → List Edge
edges_from n [] = []
edges_from n (S ∷ shapes) = edges S n (n + 2) (ends (n + 1)) ++ edges_from (n + 2 + width S) shapes

-- the first node past them
abbrev pub nodes_from : ℕ → List Shape → ℕ
nodes_from n [] = n
nodes_from n (S ∷ shapes) = nodes_from (n + 2 + width S) shapes

-- the graph of shapes whose functions have these names
abbrev pub graph_of : List (List ℕ) → Shapes → Graph
graph_of names env = record {
  nodes = nodes_from 0 env.functions;
  start = env.main;
  functions = functions_from 0 names env.functions;
  silent = sorted silent_order (silent_edges (edges_from 0 env.functions));
  sys = sorted sys_order (sys_edges (edges_from 0 env.functions));
  calls = sorted site_order (calls env.candidates (edges_from 0 env.functions));
}
