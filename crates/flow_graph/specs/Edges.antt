-- The terms that edges and places of Rust are seen as.
use Rattle.std.specs.Prelude.{List, map}
use Rattle.flow_graph.specs.declared.edge.Label.{Label as Tree}
use Rattle.flow_graph.specs.declared.edge.Label.TheVariants as l
use Rattle.flow_graph.specs.declared.edge.Edge.{Edge as EdgeTree}
use Rattle.flow_graph.specs.declared.edge.Places.{Places as PlacesTree}
use Rattle.c_meaning.specs.Walks.{Label, Silent, System, Site}
use Rattle.c_meaning.specs.GraphLayout.{Edge, edge, Places}

abbrev pub label_of : Tree → Label
label_of l.Silent = Silent
label_of (l.System x q) = System x q
label_of (l.Site s) = Site s

abbrev pub edge_of : EdgeTree → Edge
edge_of e = edge e.from (label_of e.label) e.to

abbrev pub edges_in : List EdgeTree → List Edge
edges_in es = map edge_of es

abbrev pub places_of : PlacesTree → Places
places_of p = record { to = p.to; brk = p.brk; con = p.con; ret = p.ret }
