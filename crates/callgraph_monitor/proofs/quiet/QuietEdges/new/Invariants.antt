use Rattle.callgraph_monitor.specs.Laid.{HaveBelow}
use Rattle.callgraph_monitor.specs.Space.{AreEnds}
use Rattle.callgraph_monitor.proofs.quiet.QuietEdges.new.Given as goal

abbrev pub invariant-loop-node : goal.invariant-loop-node
invariant-loop-node l = HaveBelow (AreEnds l.model) l.node l.starts.items l.ends.items
