use Rattle.std.proofs.lemmas.List.Filters.{dedup_is}
use Rattle.std.proofs.lemmas.List.Kept.{Contains-from_dedup, IsStrictlySortedBy-dedup}
use Rattle.std.proofs.lemmas.List.Sorted.{Contains-permutation, IsPermutation-sym}
use Rattle.flow_model.proofs.Rising.{rises, tied}
use Rattle.inline_model.proofs.sorting.in_order.Goals as goal

pub returns-clause-rise : goal.returns-clause-rise
returns-clause-rise g c = rw (dedup_is _ _ _ c.dedup.ensures.filtered) (rises g.T.Ord.cmp _ (IsStrictlySortedBy-dedup g.met.T.Ord.total g.met.T.Ord.matches_eq _ c.sort_unstable.ensures.sorted))

pub returns-clause-from : goal.returns-clause-from
returns-clause-from g c = λ x h. Contains-permutation _ _ x (IsPermutation-sym _ _ c.sort_unstable.ensures.permutation) (Contains-from_dedup _ _ x (rw (dedup_is _ _ _ c.dedup.ensures.filtered) at h))

pub returns-clause-all : goal.returns-clause-all
returns-clause-all g c = λ x h. rw (dedup_is _ _ _ c.dedup.ensures.filtered) (tied g.met.T.Ord.total _ g.met.T.Ord.matches_eq _ x (Contains-permutation _ _ x c.sort_unstable.ensures.permutation h))
