use Rattle.std.proofs.Common.{◌≡◌, ℕ}
use Rattle.stack_automaton.specs.declared.place.Link.{Link}
use Rattle.dm_base.specs.Adding.{Has}
use Rattle.stack_automaton.specs.Following.{IsCallTo, IsLinkOf}
use Rattle.dm_base.proofs.AddingLemmas.{adds_init, adds_step_at, adds_end}
use Rattle.stack_automaton.proofs.LinksLemmas.{links_init, links_step_at, links_end}
use Rattle.stack_automaton.proofs.follow.call_each_site.Goals as goal

pub loop-site-init : goal.loop-site-init
loop-site-init c = (
  adds_init c.args.facts.now.keys (λ (s : ℕ) y. Has (λ d. (d.site ≡ s) × IsCallTo c.args.model.now.functions c.args.ended.now.keys c.args.place d y) c.args.model.now.calls),
  links_init (λ (s : ℕ) (f : ℕ) (k : Link). Has (λ d. (d.site ≡ s) × IsLinkOf c.args.place f k d) c.args.model.now.calls) c.args.links.now,
)

pub loop-site-preserved : goal.loop-site-preserved
loop-site-preserved c = (
  adds_step_at c.args.facts.now.keys c.loop-site.facts.keys c.call_site.new.facts.keys (λ (s : ℕ) y. Has (λ d. (d.site ≡ s) × IsCallTo c.args.model.now.functions c.args.ended.now.keys c.args.place d y) c.args.model.now.calls)
      c.args.sites.now c.loop-site.site-index 0 c.loop-site-test.true c.loop-site.invariant.0 c.in_ok-call_site.ensures.facts,
  links_step_at (λ (s : ℕ) (f : ℕ) (k : Link). Has (λ d. (d.site ≡ s) × IsLinkOf c.args.place f k d) c.args.model.now.calls)
      c.args.links.now c.loop-site.links c.call_site.new.links c.args.sites.now c.loop-site.site-index 0 c.loop-site-test.true c.loop-site.invariant.1 c.in_ok-call_site.ensures.links,
)

pub returns-clause-facts : goal.returns-clause-facts
returns-clause-facts c = adds_end c.args.facts.now.keys c.loop-site.facts.keys (λ (s : ℕ) y. Has (λ d. (d.site ≡ s) × IsCallTo c.args.model.now.functions c.args.ended.now.keys c.args.place d y) c.args.model.now.calls)
    c.args.sites.now c.loop-site.site-index c.loop-site-test.false c.loop-site.invariant.0

pub returns-clause-links : goal.returns-clause-links
returns-clause-links c = links_end (λ (s : ℕ) (f : ℕ) (k : Link). Has (λ d. (d.site ≡ s) × IsLinkOf c.args.place f k d) c.args.model.now.calls)
    c.args.links.now c.loop-site.links c.args.sites.now c.loop-site.site-index c.loop-site-test.false c.loop-site.invariant.1
