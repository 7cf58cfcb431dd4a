use Rattle.slab.specs.Slab.{get}
use Rattle.stack_automaton.proofs.ResolvingLemmas.{others_own, others_apart, others_known, others_grow, others_targets, others_stored}
use Rattle.stack_automaton.proofs.store.store_others.Goals as goal

pub fill-requires-clause-own : goal.fill-requires-clause-own
fill-requires-clause-own c = others_own c.args.model.now c.args.done.now (get c.args.states.now) (get c.plan.new.states) c.args.found.now c.args.known.now.keys c.in_ok-vec.vec.items c.deref-keys.result.now c.deref-keys.ensures.value c.requires.resolved c.in_ok-vec.ensures.planned

pub fill-requires-clause-targets : goal.fill-requires-clause-targets
fill-requires-clause-targets c =
    let (begin, s, event, closed, before) = c.requires.event in
    (others_targets c.args.model.now c.args.done.now (get c.args.states.now) (get c.plan.new.states) c.args.found.now c.args.known.now.keys c.in_ok-vec.vec.items c.deref-keys.result.now c.deref-keys.ensures.value c.requires.resolved c.in_ok-vec.ensures.planned s begin event closed before).links

pub fill-requires-clause-apart : goal.fill-requires-clause-apart
fill-requires-clause-apart c = others_apart c.args.model.now c.args.done.now (get c.args.states.now) (get c.plan.new.states) c.args.found.now c.args.known.now.keys c.in_ok-vec.vec.items c.deref-keys.result.now c.deref-keys.ensures.value c.requires.resolved c.in_ok-vec.ensures.planned

pub fill-requires-clause-known : goal.fill-requires-clause-known
fill-requires-clause-known c = others_known c.args.model.now c.args.done.now (get c.args.states.now) (get c.plan.new.states) c.args.found.now c.args.known.now.keys c.in_ok-vec.vec.items c.deref-keys.result.now c.deref-keys.ensures.value c.requires.resolved c.in_ok-vec.ensures.planned

pub returns-in_err-fill-clause-grows : goal.returns-in_err-fill-clause-grows
returns-in_err-fill-clause-grows c = others_grow c.args.model.now c.args.done.now (get c.args.states.now) (get c.plan.new.states) c.args.found.now c.args.known.now.keys c.in_ok-vec.vec.items c.deref-keys.result.now c.deref-keys.ensures.value c.requires.resolved c.in_ok-vec.ensures.planned (get c.fill.new.states) c.fill.ensures.rewrites

pub returns-clause-grows : goal.returns-clause-grows
returns-clause-grows c = others_grow c.args.model.now c.args.done.now (get c.args.states.now) (get c.plan.new.states) c.args.found.now c.args.known.now.keys c.in_ok-vec.vec.items c.deref-keys.result.now c.deref-keys.ensures.value c.requires.resolved c.in_ok-vec.ensures.planned (get c.fill.new.states) c.fill.ensures.rewrites

pub returns-clause-entered : goal.returns-clause-entered
returns-clause-entered c =
    let (begin, s, event, closed, before) = c.requires.event in
    others_stored c.args.model.now c.args.done.now (get c.args.states.now) (get c.plan.new.states) c.args.found.now c.args.known.now.keys c.in_ok-vec.vec.items c.deref-keys.result.now c.deref-keys.ensures.value c.requires.resolved c.in_ok-vec.ensures.planned s begin event closed before (get c.fill.new.states) c.in_ok-fill.ensures.filled
