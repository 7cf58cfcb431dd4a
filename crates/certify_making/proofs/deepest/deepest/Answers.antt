use Rattle.certify_making.proofs.DeepestLemmas.{deepest_none, deepest_more, deepest_all}
use Rattle.certify_making.proofs.deepest.deepest.Goals as goal

pub loop-line-init : goal.loop-line-init
loop-line-init c = deepest_none

pub loop-line-preserved : goal.loop-line-preserved
loop-line-preserved c = deepest_more c.args.lines.now c.loop-line.line-index _ c.loop-line.events c.deeper-events.result c.loop-line-test.true c.loop-line.invariant c.deeper-events.ensures

pub returns : goal.returns
returns c = deepest_all c.args.lines.now c.loop-line.line-index c.loop-line.events c.loop-line-test.false c.loop-line.invariant
