use Rattle.std.proofs.Common.{get_or, rules}
use Rattle.std.proofs.lemmas.List.{get_or_default}
use Rattle.stack_automaton.specs.declared.place.Place.TheVariants.{Held}
use Rattle.stack_automaton.specs.Links.{functions_of}
use Rattle.stack_automaton.specs.Resolving.{IsKnown}
use Rattle.stack_automaton.proofs.ResolvingLemmas.{all_more, all_end}
use Rattle.stack_automaton.proofs.resolve.are_known.Goals as goal

pub loop-link-preserved : goal.loop-link-preserved
loop-link-preserved c =
    let x = get_or c.args.list.now c.loop-link.link-index (record { site = 0; to = 0; place = Held 0 }) in
    all_more (λ l. IsKnown (functions_of c.args.links.now) c.args.known.now.keys l.place) c.args.list.now c.loop-link.link-index x c.loop-link-test.true
    (get_or_default c.args.list.now c.loop-link.link-index (record { site = 0; to = 0; place = Held 0 }) x c.loop-link-test.true) c.loop-link.invariant (c.is_known.ensures (search rules))

pub returns : goal.returns
returns c = λ holds. all_end (λ l. IsKnown (functions_of c.args.links.now) c.args.known.now.keys l.place) c.args.list.now c.loop-link.link-index c.loop-link-test.false c.loop-link.invariant
