use Rattle.dyck_monitor.proofs.monitor.DyckMonitorCountedMonitor.close.Goals as goal

pub follow-requires-clause-found : goal.follow-requires-clause-found
follow-requires-clause-found g c = c.size-size.ensures.found

pub returns-clause-closed : goal.returns-clause-closed
returns-clause-closed g c = c.follow.ensures.reached
