use Rattle.certify_making.specs.Adding.Added.{none}
use Rattle.certify_making.proofs.GrowingLemmas.{added_step, added_all, cannot_add_each}
use Rattle.certify_making.proofs.facts.Facts.add_each.Goals as goal

pub loop-line-init : goal.loop-line-init
loop-line-init c = (c.requires, none)

pub loop-line-preserved : goal.loop-line-preserved
loop-line-preserved c = (c.in-Ok.ensures.kept, added_step c.args.self.now.lines.items c.loop-line.self.lines.items c.add.new.self.lines.items c.args.found.now c.loop-line.line-index _ c.loop-line-test.true c.loop-line.invariant.1 c.in-Ok.ensures.adds)

pub returns-in-Err-clause-large : goal.returns-in-Err-clause-large
returns-in-Err-clause-large c = cannot_add_each c.args.self.now.lines.items c.loop-line.self.lines.items c.args.found.now c.loop-line.line-index _ c.in-Err.error c.loop-line-test.true c.loop-line.invariant.1 c.in-Err.ensures.large

pub returns-clause-adds : goal.returns-clause-adds
returns-clause-adds c = added_all c.args.self.now.lines.items c.loop-line.self.lines.items c.args.found.now c.loop-line.line-index c.loop-line-test.false c.loop-line.invariant.1
