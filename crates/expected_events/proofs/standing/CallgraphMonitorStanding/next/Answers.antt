use Rattle.flow_model.specs.declared.which.Which.TheVariants.{Callgraph}
use Rattle.expected_events.proofs.StandingLemmas.{quiet_next}
use Rattle.expected_events.proofs.standing.CallgraphMonitorStanding.next.Goals as goal

pub returns : goal.returns
returns c = λ k h stands accepted.
    let found = c.in_ok-found.ensures in
    quiet_next Callgraph c.args.model.now c.nodes-nodes.ensures.valid h c.nodes.result.now (λ a _. c.nodes.ensures.exact c.args.model.now k h stands a) c.in_ok-found.found
    found.functions found.functions_rise found.calls found.calls_rise found.opened_rise found.opened found.closed (λ s none. none) (λ s none. none)
