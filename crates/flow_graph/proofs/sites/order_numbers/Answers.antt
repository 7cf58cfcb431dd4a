use Rattle.std.specs.Cmp.{nat_cmp_total}
use Rattle.std.specs.Ordering.{nat_cmp}
use Rattle.flow_model.proofs.OrderLemmas.{numbers_tie}
use Rattle.flow_graph.proofs.OrderedLemmas.{ordered}
use Rattle.flow_graph.proofs.sites.order_numbers.Goals as goal

pub returns : goal.returns
returns c = ordered nat_cmp nat_cmp_total numbers_tie c.args.numbers.now.items c.in_order.new.items.items c.in_order.ensures.rise c.in_order.ensures.from c.in_order.ensures.all
