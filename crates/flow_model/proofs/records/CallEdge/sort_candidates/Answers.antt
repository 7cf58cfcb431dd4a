use Rattle.std.proofs.Common.{◌≡◌, ◌∙◌, ap}
use Rattle.std.specs.Ordering.{nat_cmp}
use Rattle.flow_model.proofs.OrderLemmas.{numbers_tie}
use Rattle.flow_model.proofs.SortingLemmas.{differ_by_key}
use Rattle.flow_model.proofs.records.CallEdge.sort_candidates.Goals as goal

pub returns-clause-differ : goal.returns-clause-differ
returns-clause-differ c =
    let same : c.deref_mut.result.now ≡ c.args.self.now.candidates = c.deref_mut.ensures.value ∙ ap (λ call. call.candidates) c.self.view_is in
    rw (← same) (differ_by_key nat_cmp (λ f. f) numbers_tie c.deref_mut.result.now c.sort_apart.result c.sort_apart.ensures.differ)
