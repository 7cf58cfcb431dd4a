use Rattle.callgraph_monitor.proofs.monitor.CallgraphMonitor.feed_now.Given as goal

abbrev pub ghosts-feed_over : goal.ghosts-feed_over
ghosts-feed_over a = record { name = a.blank.name; parts = a.blank.parts }
