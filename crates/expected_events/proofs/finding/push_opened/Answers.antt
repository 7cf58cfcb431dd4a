use Rattle.std.proofs.Common.{sym, ◌∙◌, subst}
use Rattle.dm_sets.specs.Nodes.{Has}
use Rattle.expected_events.specs.Marked.{IsOpenedBy}
use Rattle.expected_events.proofs.RisingLemmas.{adds_pushed, rise_pushed}
use Rattle.expected_events.proofs.finding.push_opened.Goals as goal

pub returns-clause-added : goal.returns-clause-added
returns-clause-added c =
    let stands = subst (Has c.args.at.now) c.from.ensures (c.contains.ensures.0 c.if-not-contains.false) in
    adds_pushed c.args.sites.now.items c.push.new.self.items c.site.result (λ s. IsOpenedBy c.args.at.now s c.args.call.now) c.in_ok-push.ensures.items
    (sym c.site.ensures, stands, c.has_candidate.ensures.0 c.if-not-has_candidate.false) (λ s is. sym is.0 ∙ sym c.site.ensures)

pub returns-clause-rise : goal.returns-clause-rise
returns-clause-rise c = rise_pushed c.args.sites.now.items c.push.new.self.items c.site.result c.args.call.now.site c.in_ok-push.ensures.items c.site.ensures
