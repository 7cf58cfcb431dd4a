use Rattle.std.proofs.Common.{rules}
use Rattle.std.specs.List.Sorted.{IsStableByKey}
use Rattle.std.specs.Ordering.{nat_cmp}
use Rattle.std.proofs.lemmas.List.Sorted.{IsNonDecreasingBy-from_sort, answers_always}
use Rattle.flow_model.specs.declared.groups.Member.{Member}
use Rattle.flow_model.proofs.GroupsLemmas.{AreGrouped-from_sorted}
use Rattle.flow_model.proofs.groups.grouped.Goals as goal

pub starts_of-requires : goal.starts_of-requires
starts_of-requires c =
    rw c.deref.ensures.value
    (IsNonDecreasingBy-from_sort (λ (m : Member). m.group) _ (c.in_ok-sort_by_key.ensures.sorted (λ m. m.group) (answers_always _ _ _ (λ f a r f' h. search rules))))

pub returns : goal.returns
returns c =
    let stable : IsStableByKey (λ (m : Member). m.group) nat_cmp c.args.members.items c.sort_by_key.new.self.items = c.sort_by_key.ensures.stable (λ m. m.group) (answers_always _ _ _ (λ f a r f' h. search rules)) in
    AreGrouped-from_sorted _ _ _ _ _ stable (rw c.deref.ensures.value at c.in_ok-starts.ensures) (rw c.deref-2.ensures.value at c.in_ok-sites.ensures)
