use Rattle.std.proofs.Common.{◌∙◌}
use Rattle.c_check_counts.proofs.SetLemmas.{once_more, once_all}
use Rattle.c_check_counts.proofs.unit_tags.distinct_names.Goals as goal

pub loop-name-preserved : goal.loop-name-preserved
loop-name-preserved c = record {
  once = once_more c.args.names.now c.loop-name.name-index _ c.loop-name.once c.add_distinct.new.once c.loop-name-test.true c.loop-name.invariant.once c.in_ok-add_distinct.ensures.once;
  same = c.in_ok-add_distinct.ensures.same;
}

pub returns : goal.returns
returns c = c.loop-name.invariant.same ∙ once_all c.args.names.now c.loop-name.name-index c.loop-name.once c.loop-name-test.false c.loop-name.invariant.once
