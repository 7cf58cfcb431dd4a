-- Neighbours in order tell of all items.
use Rattle.std.proofs.Common.{rules, ◌≡◌}
use Rattle.std.specs.Ordering.{is_lt}
use Rattle.std.specs.List.{IsAllAdjacentAnswer}
use Rattle.std.proofs.lemmas.List.Sorted.{answers_always}
use Rattle.flow_model.proofs.SortingLemmas.{AllPairs-from_answer, differ_from_sorted}
use Rattle.flow_model.proofs.sorting.sort_apart.Given.{Over}
use Rattle.flow_model.proofs.sorting.sort_apart.Goals as goal

-- what the look at neighbours says
answer : (g : Over) (c : goal.After-is_sorted_by g) → IsAllAdjacentAnswer (λ x y b. b ≡ is_lt (g.T.Ord.cmp x y)) c.sort_unstable.new.self c.is_sorted_by.result
answer g c =
    c.is_sorted_by.ensures.cases (λ x y. is_lt (g.T.Ord.cmp x y))
    (answers_always _ _ _ (λ f a r f' h. let same = g.met.T.Ord.matches_partial_cmp a.0.now a.1.0.now in search rules))

pub returns-clause-differ : goal.returns-clause-differ
returns-clause-differ g c =
    differ_from_sorted g.T.Ord.cmp g.met.T.Ord.total _ _ _ c.sort_unstable.ensures.permutation c.sort_unstable.ensures.sorted (answer g c)

pub returns-clause-rise : goal.returns-clause-rise
returns-clause-rise g c = AllPairs-from_answer g.T.Ord.cmp g.met.T.Ord.total _ _ (answer g c)
