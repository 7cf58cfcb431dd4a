use Rattle.std.proofs.Common.{◌↔◌, ℕ, List, Contains, subst}
use Rattle.flow_model.specs.Call.{Call}
use Rattle.dm_base.specs.Adding.{Has as HasOne}
use Rattle.expected_events.specs.Marked.{IsOpenedBy}
use Rattle.expected_events.proofs.FindingLemmas.{opened_all}
use Rattle.expected_events.proofs.finding.opened_where.Goals as goal

pub returns-clause-exact : goal.returns-clause-exact
returns-clause-exact c =
    let exact = subst (λ (calls : List Call). (s : ℕ) → Contains c.in_ok-found.found.items s ↔ HasOne (IsOpenedBy c.args.at.now s) calls) c.calls.ensures c.in_ok-found.ensures.exact in
    opened_all c.args.model.now c.args.at.now c.args.sites c.in_ok-found.found.items c.if-not-sites.false exact
