use Rattle.std.proofs.Common.{◌≡◌, leb, true, false, arith, rules}
use Rattle.std.proofs.lemmas.List.Sorted.{IsPartitionPoint-from_clause, IsPartitionedBy-leb}
use Rattle.std.specs.List.Sorted.{IsPartitionPoint}
use borrow.Author.Tests.{tests}
use Rattle.flow_model.proofs.RulesLemmas.{non_decreasing_from_rise}
use Rattle.inline_model.proofs.table.count_begun.Goals as goal
use Rattle.inline_model.proofs.table.count_begun.Goals.{After-partition_point}

cut : (c : After-partition_point) → IsPartitionPoint (λ one. leb one.entry c.args.node ≡ true) (λ one. leb one.entry c.args.node ≡ false) c.args.functions.now c.partition_point.result
cut c = IsPartitionPoint-from_clause (λ one. leb one.entry c.args.node) c.args.functions.now _ c.partition_point.ensures.partitioned (IsPartitionedBy-leb (λ one. one.entry) c.args.functions.now c.args.node (non_decreasing_from_rise (λ one. one.entry) c.args.functions.now c.requires)) (λ a r f' k. search (rules, tests))

pub returns-clause-before : goal.returns-clause-before
returns-clause-before c = λ k d less. let found = (cut (goal.at.returns-clause-before c).After-partition_point).0 k d (omega arith) less in search (rules, tests)

pub returns-clause-after : goal.returns-clause-after
returns-clause-after c = λ k d least within. let found = (cut (goal.at.returns-clause-after c).After-partition_point).1 k d least within in search (rules, tests)
