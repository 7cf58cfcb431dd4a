use Rattle.std.proofs.Common.{[]}
use Rattle.dm_base.specs.declared.verdict.Step.TheVariants.{Kept}
use Rattle.dyck_monitor.specs.Standing.{Stands}
use Rattle.dyck_monitor.proofs.Going.{stands_nothing}
use Rattle.dyck_monitor.proofs.monitor.DyckMonitorMonitor.open.Goals as goal
use Rattle.dyck_monitor.proofs.monitor.DyckMonitorMonitor.open.Goals.{After-begin_uncounted}

stands : (c : After-begin_uncounted) → Stands c.args.model.now c.args.bound c.begin_uncounted.new.set c.in_ok-sites.sites Kept []
stands c =
    let (entry, exit, start, begun) = c.begin_uncounted.ensures.begun in
    stands_nothing c.args.model.now c.args.bound c.begin_uncounted.new.set c.in_ok-sites.sites entry exit start c.begin_uncounted.ensures.size c.in_ok-sites.ensures begun

pub returns-clause-stands : goal.returns-clause-stands
returns-clause-stands c = stands c

pub returns-clause-empty : goal.returns-clause-empty
returns-clause-empty c = (stands c).told
