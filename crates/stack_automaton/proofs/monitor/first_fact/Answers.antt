use Rattle.std.proofs.Common.{rules, ◌≡◌, [], subst}
use Rattle.dm_base.specs.Adding.{Adds}
use Rattle.stack_automaton.specs.declared.place.Place.TheVariants.{Held}
use Rattle.dm_base.proofs.AddingLemmas.{are_all}
use Rattle.stack_automaton.proofs.monitor.first_fact.Goals as goal

pub returns : goal.returns
returns c =
    let empty : c.new-facts.result.keys ≡ [] = search rules in
    are_all c.add.new.facts.keys (λ x. x ≡ record { node = c.args.node; place = Held c.args.last }) (subst (λ ks. Adds ks c.add.new.facts.keys (λ x. x ≡ record { node = c.args.node; place = Held c.args.last })) empty c.in_ok-add.ensures)
