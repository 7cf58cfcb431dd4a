-- Edges that are taken one after another.
use Rattle.std.proofs.Common.{◌≡◌, ℕ, ◌+◌, ◌<◌, List, [], ◌∷◌, ◌++◌, length, take, get_or, refl, sym, ◌∙◌, ap}
use Rattle.std.proofs.lemmas.List.{take_more, map-append}
use Rattle.flow_graph.specs.declared.edge.Edge.{Edge as EdgeTree}
use Rattle.flow_graph.specs.Edges.{edge_of, edges_in}
use Rattle.flow_model.specs.declared.records.SilentEdge.{SilentEdge}
use Rattle.flow_model.specs.declared.records.SysEdge.{SysEdge}
use Rattle.c_meaning.specs.Walks.{Silent, System, Site}
use Rattle.c_meaning.specs.GraphLayout.{Edge, edge}
use Rattle.c_meaning.specs.GraphOf.{silent_edges, sys_edges}

silent_append : (xs ys : List Edge) → silent_edges (xs ++ ys) ≡ silent_edges xs ++ silent_edges ys
silent_append [] ys = refl
silent_append (edge a Silent b ∷ xs) ys = ap (λ es. record { from = a; to = b } ∷ es) (silent_append xs ys)
silent_append (edge a (System x q) b ∷ xs) ys = silent_append xs ys
silent_append (edge a (Site s) b ∷ xs) ys = silent_append xs ys

sys_append : (xs ys : List Edge) → sys_edges (xs ++ ys) ≡ sys_edges xs ++ sys_edges ys
sys_append [] ys = refl
sys_append (edge a Silent b ∷ xs) ys = sys_append xs ys
sys_append (edge a (System x q) b ∷ xs) ys = ap (λ es. record { from = a; name = x; to = b; args = q } ∷ es) (sys_append xs ys)
sys_append (edge a (Site s) b ∷ xs) ys = sys_append xs ys

taken : (es : List EdgeTree) (k : ℕ) (e : EdgeTree) → k < length es → e ≡ get_or es k e → edges_in (take (k + 1) es) ≡ edges_in (take k es) ++ edge_of e ∷ []
taken es k e lt is = ap edges_in (take_more es k e lt ∙ ap (λ y. take k es ++ y ∷ []) (sym is)) ∙ map-append edge_of (take k es) (e ∷ [])

module _ {X : Type 0} (f : List Edge → List X) (join : (xs ys : List Edge) → f (xs ++ ys) ≡ f xs ++ f ys) where
  more : (es : List EdgeTree) (k : ℕ) (e : EdgeTree) (old new : List X) → k < length es → e ≡ get_or es k e → old ≡ f (edges_in (take k es)) → new ≡ old ++ f (edge_of e ∷ []) → new ≡ f (edges_in (take (k + 1) es))
  more es k e old new lt is before step = step ∙ ap (λ xs. xs ++ f (edge_of e ∷ [])) before ∙ sym (join (edges_in (take k es)) (edge_of e ∷ [])) ∙ ap f (sym (taken es k e lt is))

pub silent_more : (es : List EdgeTree) (k : ℕ) (e : EdgeTree) (old new : List SilentEdge) → k < length es → e ≡ get_or es k e → old ≡ silent_edges (edges_in (take k es)) → new ≡ old ++ silent_edges (edge_of e ∷ []) → new ≡ silent_edges (edges_in (take (k + 1) es))
silent_more = more silent_edges silent_append

pub sys_more : (es : List EdgeTree) (k : ℕ) (e : EdgeTree) (old new : List SysEdge) → k < length es → e ≡ get_or es k e → old ≡ sys_edges (edges_in (take k es)) → new ≡ old ++ sys_edges (edge_of e ∷ []) → new ≡ sys_edges (edges_in (take (k + 1) es))
sys_more = more sys_edges sys_append
