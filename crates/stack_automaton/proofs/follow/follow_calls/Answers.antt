use Rattle.std.proofs.lemmas.Result.{on_ok_weaker}
use Rattle.stack_automaton.specs.Following.{IsCallTo, IsLinkOf}
use Rattle.dm_base.proofs.AddingLemmas.{adds_same}
use Rattle.stack_automaton.proofs.LinksLemmas.{links_same}
use Rattle.stack_automaton.proofs.ReadingLemmas.{one_call}
use Rattle.stack_automaton.proofs.FollowingLemmas.{by_sites}
use Rattle.stack_automaton.proofs.follow.follow_calls.Goals as goal

pub returns-clause-facts : goal.returns-clause-facts
returns-clause-facts c =
    on_ok_weaker c.call_each_site.result (adds_same c.args.facts.now.keys c.call_each_site.new.facts.keys _ _ (λ y.
    by_sites c.args.model.now c.args.fact.node c.sites_from.result.now (one_call c.args.model.now c.nodes-nodes.ensures.valid) (λ d. IsCallTo c.args.model.now.functions c.args.ended.now.keys c.args.fact.place d y) c.sites_from.ensures))
    c.call_each_site.ensures.facts

pub returns-clause-links : goal.returns-clause-links
returns-clause-links c =
    on_ok_weaker c.call_each_site.result (links_same c.args.links.now c.call_each_site.new.links _ _ (λ f l.
    by_sites c.args.model.now c.args.fact.node c.sites_from.result.now (one_call c.args.model.now c.nodes-nodes.ensures.valid) (λ d. IsLinkOf c.args.fact.place f l d) c.sites_from.ensures))
    c.call_each_site.ensures.links
