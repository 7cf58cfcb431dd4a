use Rattle.flow_model.specs.Order.{sys_order}
use Rattle.flow_model.proofs.OrderLemmas.{sys_edges_tie}
use Rattle.flow_model.proofs.SortingLemmas.{differ_by_key}
use Rattle.flow_model.proofs.sorting.sort_sys.Goals as goal

pub returns-clause-differ : goal.returns-clause-differ
returns-clause-differ c =
    differ_by_key sys_order (λ e. e) sys_edges_tie _ _ c.sort_apart.ensures.differ
