use Rattle.std.proofs.Common.{◌≡◌, take}
use Rattle.dm_base.specs.Adding.{Has, Adds}
use Rattle.stack_automaton.specs.Links.{AddsLinks}
use Rattle.stack_automaton.specs.Following.{IsCallTo, IsLinkOf}
use Rattle.stack_automaton.proofs.follow.call_each_site.Given as goal

abbrev pub invariant-loop-site : goal.invariant-loop-site
invariant-loop-site l = Adds l.fn.facts.keys l.facts.keys (λ y. Has (λ s. Has (λ c. (c.site ≡ s) × IsCallTo l.model.functions l.ended.keys l.place c y) l.model.calls) (take l.site-index l.sites))
    × AddsLinks l.fn.links l.links (λ f k. Has (λ s. Has (λ c. (c.site ≡ s) × IsLinkOf l.place f k c) l.model.calls) (take l.site-index l.sites))
