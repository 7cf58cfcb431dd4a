use Rattle.flow_model.specs.declared.which.Which.TheVariants.{Stack}
use Rattle.expected_events.proofs.StandingLemmas.{quiet_next}
use Rattle.expected_events.proofs.standing.StackMonitorStanding.next.Goals as goal

pub returns : goal.returns
returns c = λ k h stands accepted.
    let found = c.in_ok-found.ensures in
    quiet_next Stack c.args.model.now c.nodes-nodes.ensures.valid h c.in_ok-at.at
    (λ a below.
    let marked = c.in_ok-at.ensures a below in
    let top = c.tops.ensures c.args.model.now k h stands accepted a in
    (λ has. top.0 (marked.0 has), λ may. marked.1 (top.1 may)))
    c.in_ok-found.found found.functions found.functions_rise found.calls found.calls_rise found.opened_rise found.opened found.closed (λ s none. none) (λ s none. none)
