use Rattle.std.proofs.Common.{◌≡◌}
use Rattle.dm_base.proofs.AddingLemmas.{adds_step_at, adds_end}
use Rattle.stack_automaton.specs.declared.place.Place.TheVariants.{Held}
use Rattle.stack_automaton.proofs.follow.return_to_each.Goals as goal

pub loop-link-preserved : goal.loop-link-preserved
loop-link-preserved c = adds_step_at c.args.facts.now.keys c.loop-link.facts.keys c.add_at.new.facts.keys (λ k y. y ≡ record { node = k.to; place = k.place }) c.args.links.now c.loop-link.link-index (record { site = 0; to = 0; place = Held 0 }) c.loop-link-test.true c.loop-link.invariant c.in_ok-add_at.ensures

pub returns : goal.returns
returns c = adds_end c.args.facts.now.keys c.loop-link.facts.keys (λ k y. y ≡ record { node = k.to; place = k.place }) c.args.links.now c.loop-link.link-index c.loop-link-test.false c.loop-link.invariant
