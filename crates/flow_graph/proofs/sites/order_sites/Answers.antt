use Rattle.flow_graph.specs.SiteEdges.{site_edge_order}
use Rattle.flow_graph.proofs.SiteOrder.{site_edge_order_total, site_edges_tie}
use Rattle.flow_graph.proofs.OrderedLemmas.{ordered}
use Rattle.flow_graph.proofs.sites.order_sites.Goals as goal

pub returns : goal.returns
returns c = ordered site_edge_order site_edge_order_total site_edges_tie c.args.edges.now.items c.in_order.new.items.items c.in_order.ensures.rise c.in_order.ensures.from c.in_order.ensures.all
