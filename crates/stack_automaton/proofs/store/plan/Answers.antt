use Rattle.std.proofs.Common.{◌≡◌, ◌+◌, length, rules, arith, sym, subst}
use Rattle.slab.specs.Slab.{get}
use Rattle.stack_automaton.specs.Storing.{Planned}
use Rattle.stack_automaton.proofs.GrowingLemmas.{grows_trans, planned_more, planned_none}
use Rattle.stack_automaton.proofs.store.plan.Goals as goal

pub returns-in_err-key-clause-grows : goal.returns-in_err-key-clause-grows
returns-in_err-key-clause-grows c = grows_trans (get c.args.states.now) (get c.loop-place.states) (get c.plan_one.new.states) c.loop-place.invariant.grown c.plan_one.ensures.grows

pub returns-in_err-push-clause-grows : goal.returns-in_err-push-clause-grows
returns-in_err-push-clause-grows c = grows_trans (get c.args.states.now) (get c.loop-place.states) (get c.plan_one.new.states) c.loop-place.invariant.grown c.plan_one.ensures.grows

pub loop-place-init : goal.loop-place-init
loop-place-init c = planned_none (get c.args.states.now) c.args.found.now c.args.known.now.keys c.new-keys.result.items (search rules)

pub loop-place-preserved : goal.loop-place-preserved
loop-place-preserved c =
    subst (λ ks. Planned (get c.args.states.now) (get c.plan_one.new.states) c.args.found.now c.args.known.now.keys ks (c.loop-place.place + 1)) (sym c.in_ok-push.ensures.items)
    (planned_more (get c.args.states.now) (get c.loop-place.states) (get c.plan_one.new.states) c.args.found.now c.args.known.now.keys c.loop-place.keys.items c.loop-place.place c.in_ok-key.key c.loop-place.invariant
    c.requires.there c.plan_one.ensures.grows c.in_ok-key.ensures.there c.in_ok-key.ensures.chosen)

pub returns-clause-planned : goal.returns-clause-planned
returns-clause-planned c =
    let end : c.loop-place.place ≡ length c.args.found.now = omega (arith, c.loop-place-test.false, c.loop-place.auto.place-end) in
    subst (λ n. Planned (get c.args.states.now) (get c.loop-place.states) c.args.found.now c.args.known.now.keys c.loop-place.keys.items n) end c.loop-place.invariant

pub plan_one-requires-clause-there : goal.plan_one-requires-clause-there
plan_one-requires-clause-there c = λ has.
    let (edges, is) = c.requires.there c.loop-place.place has in
    (edges, c.loop-place.invariant.grown.kept _ edges is)
