-- The records of a builder are the graph of the program, which breaks no rule.
use Rattle.std.proofs.Common.{◌≡◌, ℕ, ◌<◌, ◌≤◌, min, List, length, map, sym, ap, ap₂, ◌∙◌, subst, arith}
use Rattle.c_tree.specs.Tree.{Program}
use Rattle.c_tree.specs.Program.{IsProgram}
use Rattle.c_meaning.specs.Shape.{Shape}
use Rattle.c_meaning.specs.ShapeOf.{shapes_of_functions, names_of_functions, candidate_places, shapes_of}
use Rattle.flow_graph.specs.SiteEdges.{site_edges, site_edge_order}
use Rattle.flow_model.specs.Built.{Records, graph_of_records}
use Rattle.flow_model.specs.Graph.{Graph}
use Rattle.flow_model.specs.Order.{silent_order, sys_order}
use Rattle.flow_model.specs.Rules.{IsInOrder, IsValid, IsLeastBroken}
use Rattle.c_meaning.specs.GraphOf.{functions_from, edges_from, nodes_from, silent_edges, sys_edges}
use Rattle.c_meaning.specs.GraphOfProgram.{graph_of_program}
use Rattle.c_meaning.specs.Sorted.{sorted}
use Rattle.c_meaning.proofs.ProgramsClosed.{closed, many_names}
use Rattle.std.proofs.lemmas.List.{length-map}
use Rattle.flow_graph.specs.declared.shape.Shape.{Shape as Tree}
use Rattle.flow_graph.specs.View.{shape_of, shapes_in}
use Rattle.flow_graph.specs.Places.{call_of}
use Rattle.flow_graph.proofs.OrderedCalls.{ordered_calls}
use Rattle.flow_model.proofs.ValidModels.{none_broken}

-- the records of shapes
abbrev pub records_of : Program → List Shape → Records
records_of p fs = record {
  functions = functions_from 0 (names_of_functions p) fs;
  silent = sorted silent_order (silent_edges (edges_from 0 fs));
  sys = sorted sys_order (sys_edges (edges_from 0 fs));
  calls = map (call_of (candidate_places p)) (sorted site_edge_order (site_edges (edges_from 0 fs)));
}

pub graph_made : (p : Program) (n : ℕ) → IsProgram p n → (b : Records) (fs : List Shape) (nodes start : ℕ) → fs ≡ shapes_of_functions p → b ≡ records_of p fs → nodes ≡ nodes_from 0 fs → start ≡ p.main → graph_of_records b nodes start ≡ graph_of_program p
graph_made p n h b fs nodes start are is many first =
    ap₂ (λ k s. graph_of_records b k s) (many ∙ ap (nodes_from 0) are) first
    ∙ ap (λ r. graph_of_records r (nodes_from 0 (shapes_of_functions p)) p.main) (is ∙ ap (records_of p) are)
    ∙ (λ i. record (graph_of_program p) { calls = ordered_calls (shapes_of p) (closed p n h) i })

pub made_unbroken : (g given : Graph) (k : ℕ) → given ≡ g → IsValid g → IsLeastBroken given k → ⊥
made_unbroken g given k is valid broken = none_broken g k valid (subst (λ x. IsLeastBroken x k) is broken)

pub made_kept : (g given m : Graph) → given ≡ g → IsValid g → (IsInOrder given → m ≡ given) → m ≡ g
made_kept g given m is valid kept = kept (subst IsInOrder (sym is) valid.order) ∙ is

pub few_made : (p : Program) (fs : List Shape) (nodes : ℕ) → fs ≡ shapes_of_functions p → nodes ≡ nodes_from 0 fs → nodes ≤ 200000 → (graph_of_program p).nodes ≤ 200000
few_made p fs nodes are is few = let e : nodes_from 0 fs ≡ nodes_from 0 (shapes_of_functions p) = ap (nodes_from 0) are in omega (arith, e, is, few)

pub many_shapes : (p : Program) (ts : List Tree) → shapes_in ts ≡ shapes_of_functions p → length ts ≡ length (names_of_functions p)
many_shapes p ts are =
    let k = many_names p in
    let i : length (shapes_in ts) ≡ length (shapes_of_functions p) = ap length are in
    let j = length-map ts shape_of in
    omega (arith, k, i, j)

pub exact_nodes : (fs : List Shape) (nodes : ℕ) → nodes ≡ min (nodes_from 0 fs) 200001 → nodes ≤ 200000 → nodes ≡ nodes_from 0 fs
exact_nodes fs nodes is few = omega (arith, is, few)

pub many_nodes : (p : Program) (fs : List Shape) (nodes : ℕ) → fs ≡ shapes_of_functions p → nodes ≡ min (nodes_from 0 fs) 200001 → 200000 < nodes → 200000 < (graph_of_program p).nodes
many_nodes p fs nodes are is many = let e : nodes_from 0 fs ≡ nodes_from 0 (shapes_of_functions p) = ap (nodes_from 0) are in omega (arith, e, is, many)
