use Rattle.std.proofs.Common.{◌≡◌, subst}
use Rattle.stack_automaton.specs.Following.{IsCallTo, IsLinkOf}
use Rattle.dm_base.specs.Adding.{Has, Adds}
use Rattle.dm_base.proofs.AddingLemmas.{adds_nothing}
use Rattle.stack_automaton.proofs.LinksLemmas.{links_nothing}
use Rattle.stack_automaton.proofs.FollowingLemmas.{site_called, site_linked, no_site, same_link}
use Rattle.stack_automaton.proofs.follow.call_site.Goals as goal

pub returns-in_ok-call_each-clause-facts : goal.returns-in_ok-call_each-clause-facts
returns-in_ok-call_each-clause-facts c = subst (λ fs. Adds c.args.facts.now.keys c.call_each.new.facts.keys (λ y. Has (λ d. (d.site ≡ c.args.site) × IsCallTo fs c.args.ended.now.keys c.args.place d y) c.args.model.now.calls)) c.functions.ensures (
    site_called c.args.model.now c.args.site c.in-Some.call.now c.in-Some.ensures.some c.args.facts.now.keys c.call_each.new.facts.keys c.functions.result.now c.args.ended.now.keys c.args.place
    (record { site = c.site.result; to = c.to.result; place = c.args.place }) c.candidates.result.now (same_link c.in-Some.call.now c.args.place c.site.result c.to.result c.site.ensures c.to.ensures) c.candidates.ensures c.in_ok-call_each.ensures.facts)

pub returns-in_ok-call_each-clause-links : goal.returns-in_ok-call_each-clause-links
returns-in_ok-call_each-clause-links c = site_linked c.args.model.now c.args.site c.in-Some.call.now c.in-Some.ensures.some c.args.links.now c.call_each.new.links c.args.place
    (record { site = c.site.result; to = c.to.result; place = c.args.place }) c.candidates.result.now (same_link c.in-Some.call.now c.args.place c.site.result c.to.result c.site.ensures c.to.ensures) c.candidates.ensures c.in_ok-call_each.ensures.links

pub returns-in_default-clause-facts : goal.returns-in_default-clause-facts
returns-in_default-clause-facts c = adds_nothing c.args.facts.now.keys _ (λ y. no_site c.args.model.now c.args.site (λ d. IsCallTo c.args.model.now.functions c.args.ended.now.keys c.args.place d y) c.in_default.ensures.none)

pub returns-in_default-clause-links : goal.returns-in_default-clause-links
returns-in_default-clause-links c = links_nothing c.args.links.now _ (λ f l. no_site c.args.model.now c.args.site (λ d. IsLinkOf c.args.place f l d) c.in_default.ensures.none)
