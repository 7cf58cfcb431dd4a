use Rattle.callgraph_monitor.proofs.monitor.CallgraphMonitorMonitor.open.Given as goal

abbrev pub ghosts-begin_over : goal.ghosts-begin_over
ghosts-begin_over a = record { name = a.blank.name; parts = a.blank.parts }
