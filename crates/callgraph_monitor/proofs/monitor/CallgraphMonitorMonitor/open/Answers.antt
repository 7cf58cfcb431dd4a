use Rattle.std.proofs.Common.{[], subst}
use Rattle.flow_model.specs.Language.{Walk}
use Rattle.flow_model.specs.Language.Walk.{over}
use Rattle.flow_model.proofs.Walks.{same_entry}
use Rattle.callgraph_monitor.specs.Standing.{StandsFor}
use Rattle.callgraph_monitor.proofs.Stands.{stands_first}
use Rattle.callgraph_monitor.proofs.monitor.CallgraphMonitorMonitor.open.Goals as goal
use Rattle.callgraph_monitor.proofs.monitor.CallgraphMonitorMonitor.open.Goals.{After-begin_over}

stands : (c : After-begin_over) → StandsFor c.begin_over.new.set c.args.model.now c.args._bound []
stands c =
    let (entry, exit, start, begun) = c.begin_over.ensures.begun in
    stands_first c.args.model.now c.args._bound c.begin_over.new.set c.begin_over.ensures.size
    (λ a. (
      λ has. (entry, exit, start, (begun a).0 has),
      λ (other, end, function, walk). (begun a).1 (subst (λ n. Walk c.args.model.now n [] a) (same_entry function start) walk),
    ))
    entry (entry, exit, start, over)

pub returns-clause-stands : goal.returns-clause-stands
returns-clause-stands c = stands c

pub returns-clause-empty : goal.returns-clause-empty
returns-clause-empty c = let (entry, exit, start, begun) = c.begin_over.ensures.begun in (stands c).accepted entry ((begun entry).1 over)
