use Rattle.std.proofs.Common.{◌≡◌, nat_lt, leb, true, false, arith, rules}
use Rattle.std.proofs.lemmas.List.Sorted.{IsPartitionPoint-from_clause, IsPartitionedBy-ltb}
use Rattle.std.specs.List.Sorted.{IsPartitionPoint}
use borrow.Author.Tests.{tests}
use Rattle.inline_model.specs.declared.table.Entry.{Entry}
use Rattle.inline_model.proofs.table.count_below.Goals as goal
use Rattle.inline_model.proofs.table.count_below.Goals.{After-partition_point}

cut : (c : After-partition_point) → IsPartitionPoint (λ (e : Entry). nat_lt e.function c.args.function ≡ true) (λ (e : Entry). nat_lt e.function c.args.function ≡ false) c.args.entries.now c.partition_point.result
cut c = IsPartitionPoint-from_clause (λ (e : Entry). nat_lt e.function c.args.function) c.args.entries.now _ c.partition_point.ensures.partitioned (IsPartitionedBy-ltb (λ (e : Entry). e.function) c.args.entries.now c.args.function c.requires) (λ a r f' k. (search rules, search rules))

pub returns-clause-before : goal.returns-clause-before
returns-clause-before c = λ k d less. let found = (cut (goal.at.returns-clause-before c).After-partition_point).0 k d (omega arith) less in search (rules, tests)

pub returns-clause-after : goal.returns-clause-after
returns-clause-after c = λ k d least within. let found = (cut (goal.at.returns-clause-after c).After-partition_point).1 k d least within in search (rules, tests)
