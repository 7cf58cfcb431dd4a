use Rattle.expected_events.proofs.StandingLemmas.{dyck_next}
use Rattle.expected_events.proofs.standing.DyckMonitorStanding.next.Goals as goal

pub returns : goal.returns
returns c = λ k h stands accepted.
    let found = c.in_ok-found.ensures in
    dyck_next c.args.model.now c.nodes-nodes.ensures.valid h c.nodes.result.now (λ a _. c.nodes.ensures.exact c.args.model.now k h stands accepted a) c.top.result (c.top.ensures c.args.model.now k h stands accepted) c.in_ok-found.found
    found.functions found.functions_rise found.calls found.calls_rise found.opened found.opened_rise found.closed
