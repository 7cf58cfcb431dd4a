use Rattle.watch.proofs.WatchLemmas.{told_whole}
use Rattle.watch.proofs.table.verdicts_of.Goals as goal

pub returns : goal.returns
returns g c = told_whole c.args.table.now c.args.pids.now c.loop-pid.pid-index c.loop-pid.list.items c.loop-pid-test.false c.loop-pid.invariant
