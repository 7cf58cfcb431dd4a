use Rattle.flow_model.specs.Order.{silent_order}
use Rattle.flow_model.proofs.OrderLemmas.{silent_order_total, silent_edges_tie}
use Rattle.flow_graph.proofs.OrderedLemmas.{ordered}
use Rattle.flow_graph.proofs.lists.order_silent.Goals as goal

pub returns : goal.returns
returns c = ordered silent_order silent_order_total silent_edges_tie c.args.edges.now.items c.in_order.new.items.items c.in_order.ensures.rise c.in_order.ensures.from c.in_order.ensures.all
