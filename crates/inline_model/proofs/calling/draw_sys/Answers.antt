use Rattle.flow_model.specs.Order.{sys_order}
use Rattle.flow_model.proofs.OrderLemmas.{sys_edges_tie}
use Rattle.inline_model.proofs.EdgeLemmas.{same_items}
use Rattle.inline_model.proofs.calling.draw_sys.Goals as goal

pub returns-clause-edges : goal.returns-clause-edges
returns-clause-edges c = λ e.
    let same = same_items sys_order (λ x y tied. (sys_edges_tie x y).0 tied) c.in_ok-edges.edges.items c.in_order.new.items.items c.in_order.ensures.from c.in_order.ensures.all e in
    let drawn = c.in_ok-edges.ensures e in
    (λ has. drawn.0 (same.0 has), λ is. same.1 (drawn.1 is))
