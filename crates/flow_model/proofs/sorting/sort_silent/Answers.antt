use Rattle.flow_model.specs.Order.{silent_order}
use Rattle.flow_model.proofs.OrderLemmas.{silent_edges_tie}
use Rattle.flow_model.proofs.SortingLemmas.{differ_by_key}
use Rattle.flow_model.proofs.sorting.sort_silent.Goals as goal

pub returns-clause-differ : goal.returns-clause-differ
returns-clause-differ c =
    differ_by_key silent_order (λ e. e) silent_edges_tie _ _ c.sort_apart.ensures.differ
