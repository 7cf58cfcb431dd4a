use Rattle.std.proofs.Common.{◌≡◌, [], Contains}
use Rattle.stack_automaton.specs.declared.place.Place.TheVariants.{Held}
use Rattle.dm_base.proofs.AddingLemmas.{gains_step, gains_end}
use Rattle.std.proofs.lemmas.List.{get_or_default}
use Rattle.stack_automaton.specs.declared.place.Fact.{Fact}
use Rattle.stack_automaton.proofs.MarksLemmas.{all_gained}
use Rattle.stack_automaton.proofs.fact_set.index_of.Goals as goal

abbrev none : Fact
none = record { node = 0; place = Held 0 }

pub loop-fact-preserved : goal.loop-fact-preserved
loop-fact-preserved c =
    gains_step (Contains []) (Contains c.loop-fact.index.keys) (Contains c.put.new.index.keys) (λ x y. y ≡ x) c.args.facts.now c.loop-fact.fact-index _
    c.loop-fact-test.true (get_or_default c.args.facts.now c.loop-fact.fact-index none _ c.loop-fact-test.true) c.loop-fact.invariant c.in_ok-put.ensures.added

pub returns : goal.returns
returns c = all_gained c.args.facts.now c.loop-fact.index.keys (gains_end (Contains []) (Contains c.loop-fact.index.keys) (λ x y. y ≡ x) c.args.facts.now c.loop-fact.fact-index c.loop-fact-test.false c.loop-fact.invariant)
