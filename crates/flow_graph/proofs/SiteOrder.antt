-- The order of edges at sites ties just what is equal, and the edges are taken one after another.
use Rattle.std.proofs.Common.{◌≡◌, ◌↔◌, ℕ, ◌+◌, ◌<◌, List, [], ◌∷◌, ◌++◌, length, take, get_or, refl, sym, ap, ◌∙◌}
use Rattle.std.specs.Cmp.{IsTotalOrder, nat_cmp_total}
use Rattle.std.specs.Ordering.{nat_cmp, ordering_then}
use Rattle.std.specs.declared.cmp.Ordering.TheVariants.{Equal}
use Rattle.std.proofs.lemmas.Cmp.{tied_itself, on_total, then_total}
use Rattle.std.proofs.lemmas.List.{take_more, map-append}
use Rattle.c_meaning.specs.Walks.{Silent, System, Site}
use Rattle.flow_model.proofs.OrderLemmas.{numbers_tie}
use Rattle.flow_graph.specs.declared.edge.Edge.{Edge as EdgeTree}
use Rattle.flow_graph.specs.Edges.{edge_of, edges_in}
use Rattle.c_meaning.specs.GraphLayout.{Edge, edge}
use Rattle.flow_graph.specs.declared.sites.SiteEdge.{SiteEdge}
use Rattle.flow_graph.specs.SiteEdges.{site_edges, site_edge_order}
use Rattle.flow_model.proofs.OrderLemmas.{both_equal}

pub site_edge_order_total : IsTotalOrder site_edge_order
site_edge_order_total = then_total (on_total (λ e. e.site) nat_cmp_total) (then_total (on_total (λ e. e.from) nat_cmp_total) (on_total (λ e. e.to) nat_cmp_total))

ties_itself : (d e : SiteEdge) → d ≡ e → site_edge_order d e ≡ Equal
ties_itself d e is = ap (site_edge_order d) (sym is) ∙ tied_itself site_edge_order_total d

pub site_edges_tie : (d e : SiteEdge) → site_edge_order d e ≡ Equal ↔ d ≡ e
site_edges_tie d e = (
  λ h.
      let first = both_equal (nat_cmp d.site e.site) (ordering_then (nat_cmp d.from e.from) (nat_cmp d.to e.to)) h in
      let second = both_equal (nat_cmp d.from e.from) (nat_cmp d.to e.to) first.1 in
      let site : d.site ≡ e.site = (numbers_tie d.site e.site).0 first.0 in
      let from : d.from ≡ e.from = (numbers_tie d.from e.from).0 second.0 in
      let to : d.to ≡ e.to = (numbers_tie d.to e.to).0 second.1 in
      λ i. record { site = site i; from = from i; to = to i },
  ties_itself d e,
)

site_append : (xs ys : List Edge) → site_edges (xs ++ ys) ≡ site_edges xs ++ site_edges ys
site_append [] ys = refl
site_append (edge a Silent b ∷ xs) ys = site_append xs ys
site_append (edge a (System x q) b ∷ xs) ys = site_append xs ys
site_append (edge a (Site s) b ∷ xs) ys = ap (λ es. record { site = s; from = a; to = b } ∷ es) (site_append xs ys)

pub site_more : (es : List EdgeTree) (k : ℕ) (e : EdgeTree) (old new : List SiteEdge) → k < length es → e ≡ get_or es k e → old ≡ site_edges (edges_in (take k es)) → new ≡ old ++ site_edges (edge_of e ∷ []) → new ≡ site_edges (edges_in (take (k + 1) es))
site_more es k e old new lt is before step =
    let taken : edges_in (take (k + 1) es) ≡ edges_in (take k es) ++ edge_of e ∷ [] = ap edges_in (take_more es k e lt ∙ ap (λ y. take k es ++ y ∷ []) (sym is)) ∙ map-append edge_of (take k es) (e ∷ []) in
    step ∙ ap (λ xs. xs ++ site_edges (edge_of e ∷ [])) before ∙ sym (site_append (edges_in (take k es)) (edge_of e ∷ [])) ∙ ap site_edges (sym taken)
