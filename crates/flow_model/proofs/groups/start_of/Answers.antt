use Rattle.std.proofs.Common.{rules, nat_lt}
use Rattle.std.proofs.lemmas.List.Sorted.{IsPartitionPoint-from_clause, IsPartitionedBy-ltb}
use Rattle.flow_model.proofs.GroupsLemmas.{IsStart-from_partition}
use Rattle.flow_model.proofs.groups.start_of.Goals as goal

pub returns : goal.returns
returns g c =
    let number = g.T.Numbered.number in
    let items = c.args.items.now in
    let found = c.partition_point.ensures in
    IsStart-from_partition number items c.args.bound _ found.bound
    (IsPartitionPoint-from_clause (λ x. nat_lt (number x) c.args.bound) items _ found.partitioned (IsPartitionedBy-ltb number items c.args.bound c.requires) (λ a r f h. (search rules, search rules)))
