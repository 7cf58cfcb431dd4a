use Rattle.std.proofs.Common.{◌≡◌, length, arith, subst}
use Rattle.slab.specs.Slab.{get}
use Rattle.stack_automaton.specs.Storing.{Filled}
use Rattle.stack_automaton.proofs.GrowingLemmas.{rewrites_more, filled_none, filled_more, filled_known}
use Rattle.stack_automaton.proofs.store.fill.Goals as goal

pub returns-in_err-fill_one-clause-rewrites : goal.returns-in_err-fill_one-clause-rewrites
returns-in_err-fill_one-clause-rewrites c = rewrites_more (get c.args.states.now) (get c.loop-place.states) (get c.fill_one.new.states) c.args.keys.now c.args.known.now.keys c.args.links.now c.loop-place.place c.loop-place-test.true c.fill_one.ensures.others c.fill_one.ensures.there c.fill_one.ensures.closed c.loop-place.invariant.rewrites

pub loop-place-init : goal.loop-place-init
loop-place-init c = filled_none (get c.args.states.now) c.args.keys.now c.args.known.now.keys c.args.links.now

pub loop-place-preserved : goal.loop-place-preserved
loop-place-preserved c = filled_more (get c.args.states.now) (get c.loop-place.states) (get c.fill_one.new.states) c.args.keys.now c.args.known.now.keys c.args.links.now c.loop-place.place c.loop-place-test.true c.fill_one.ensures.others c.fill_one.ensures.there c.fill_one.ensures.closed c.requires.apart c.in_ok-fill_one.ensures.filled c.loop-place.invariant

pub returns-clause-filled : goal.returns-clause-filled
returns-clause-filled c =
    let end : c.loop-place.place ≡ length c.args.keys.now = omega (arith, c.loop-place-test.false, c.loop-place.auto.place-end) in
    subst (λ n. Filled (get c.args.states.now) (get c.loop-place.states) c.args.keys.now c.args.known.now.keys c.args.links.now n) end c.loop-place.invariant

pub fill_one-requires-clause-own : goal.fill_one-requires-clause-own
fill_one-requires-clause-own c = c.loop-place.invariant.rewrites.there _ (c.requires.own c.loop-place.place c.loop-place-test.true)

pub fill_one-requires-clause-targets : goal.fill_one-requires-clause-targets
fill_one-requires-clause-targets c = λ f l has. c.loop-place.invariant.rewrites.there _ (c.requires.targets f l has)

pub fill_one-requires-clause-known : goal.fill_one-requires-clause-known
fill_one-requires-clause-known c = λ has.
    filled_known (get c.args.states.now) (get c.loop-place.states) c.args.keys.now c.args.known.now.keys c.args.links.now c.loop-place.place c.loop-place-test.true c.requires.apart c.loop-place.invariant.rewrites has (c.requires.known c.loop-place.place c.loop-place-test.true has)
