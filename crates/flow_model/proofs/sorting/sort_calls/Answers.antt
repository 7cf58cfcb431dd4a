use Rattle.std.proofs.Common.{rules, ◌≡◌, ◌∙◌, nat_lt}
use Rattle.std.specs.Ordering.{is_lt}
use Rattle.std.specs.List.{IsAllAdjacentAnswer}
use Rattle.std.specs.List.Sorted.{IsSorted}
use Rattle.std.proofs.lemmas.List.Sorted.{answers_always}
use Rattle.flow_model.specs.Order.{site_order}
use Rattle.flow_model.proofs.OrderLemmas.{site_order_total, numbers_tie, less_by_order}
use Rattle.flow_model.proofs.SortingLemmas.{AllPairs-from_answer, differ_from_sorted, differ_by_key}
use Rattle.flow_model.proofs.sorting.sort_calls.Goals as goal

-- what the look at neighbours says
answer : (c : goal.After-is_sorted_by) → IsAllAdjacentAnswer (λ x y b. b ≡ is_lt (site_order x y)) c.sort_unstable_by_key.new.self c.is_sorted_by.result
answer c = c.is_sorted_by.ensures.cases (λ x y. is_lt (site_order x y)) (answers_always _ _ _ (λ f a r f' h. let e : r ≡ nat_lt a.0.now.site a.1.0.now.site = search rules in e ∙ less_by_order a.0.now.site a.1.0.now.site))

sorted : (c : goal.After-is_sorted_by) → IsSorted site_order c.sort_unstable_by_key.new.self
sorted c = c.sort_unstable_by_key.ensures.sorted (λ x. x.site) (answers_always _ _ _ (λ f a r f' h. search rules))

pub returns-clause-differ : goal.returns-clause-differ
returns-clause-differ c =
    differ_by_key site_order (λ x. x.site) (λ x y. numbers_tie x.site y.site) _ _
    (differ_from_sorted site_order site_order_total _ _ _ c.sort_unstable_by_key.ensures.permutation (sorted c) (answer c))

pub returns-clause-rise : goal.returns-clause-rise
returns-clause-rise c = AllPairs-from_answer site_order site_order_total _ _ (answer c)
