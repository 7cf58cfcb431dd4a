-- For private contracts and proofs alone: the edges of a graph that pass calls at sites.
use Rattle.std.specs.Prelude.{List, [], ◌∷◌}
use Rattle.std.specs.declared.cmp.Ordering.{Ordering}
use Rattle.std.specs.Ordering.{nat_cmp, ordering_then}
use Rattle.flow_graph.specs.declared.sites.SiteEdge.{SiteEdge}
use Rattle.c_meaning.specs.Walks.{Silent, System, Site}
use Rattle.c_meaning.specs.GraphLayout.{Edge, edge}

abbrev pub site_edges : List Edge → List SiteEdge
site_edges [] = []
site_edges (edge a Silent b ∷ es) = site_edges es
site_edges (edge a (System x q) b ∷ es) = site_edges es
site_edges (edge a (Site s) b ∷ es) = record { site = s; from = a; to = b } ∷ site_edges es

-- by the site, then by the first node, then by the second
abbrev pub site_edge_order : SiteEdge → SiteEdge → Ordering
site_edge_order d e = ordering_then (nat_cmp d.site e.site) (ordering_then (nat_cmp d.from e.from) (nat_cmp d.to e.to))
