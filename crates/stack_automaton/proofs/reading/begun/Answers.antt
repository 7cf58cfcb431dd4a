use Rattle.std.proofs.Common.{rules, arith}
use Rattle.std.proofs.Math.Dec.{leb}
use Rattle.std.proofs.lemmas.Bool.{leb-true, leb-false}
use Rattle.std.proofs.lemmas.List.Sorted.{IsPartitionPoint-from_clause, IsPartitionedBy-leb}
use Rattle.flow_model.proofs.RulesLemmas.{non_decreasing_from_rise}
use Rattle.stack_automaton.proofs.reading.begun.Goals as goal

pub returns : goal.returns
returns c =
    let items = c.args.functions.now in
    let found = c.partition_point.ensures in
    let point = IsPartitionPoint-from_clause (λ x. leb x.entry c.args.node) items _ found.partitioned (IsPartitionedBy-leb (λ x. x.entry) items c.args.node (non_decreasing_from_rise (λ x. x.entry) items c.requires)) (λ a r f h. (search rules, search rules)) in
    record {
      within = found.bound;
      below = λ i d lt. leb-true _ _ (point.0 i d (omega arith) lt);
      above = λ i d ge lt. leb-false _ _ (point.1 i d ge lt);
    }
