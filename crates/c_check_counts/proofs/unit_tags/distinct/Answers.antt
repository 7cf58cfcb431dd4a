use Rattle.c_check_counts.proofs.SetLemmas.{once_more, once_all}
use Rattle.c_check_counts.proofs.unit_tags.distinct.Goals as goal

pub loop-name-preserved : goal.loop-name-preserved
loop-name-preserved c =
    once_more c.args.names.now c.loop-name.name-index _ c.loop-name.once c.add.new.self c.loop-name-test.true c.loop-name.invariant c.in_ok-add.ensures

pub returns : goal.returns
returns c = once_all c.args.names.now c.loop-name.name-index c.loop-name.once c.loop-name-test.false c.loop-name.invariant
