use Rattle.std.proofs.Common.{refl}
use Rattle.slab.specs.Slab.{get}
use Rattle.stack_automaton.proofs.GrowingLemmas.{grows_same, grows_trans}
use Rattle.stack_automaton.proofs.resolve.resolve_in_order.Goals as goal

pub returns-in_err-order-clause-grows : goal.returns-in_err-order-clause-grows
returns-in_err-order-clause-grows c = grows_same (get c.args.states.now) (get c.args.states.now) (λ k. refl)

pub loop-place-init : goal.loop-place-init
loop-place-init c = record {
  grown = grows_same (get c.args.states.now) (get c.args.states.now) (λ k. refl);
  resolved = c.requires.resolved;
}

pub resolve_one-requires-clause-held : goal.resolve_one-requires-clause-held
resolve_one-requires-clause-held c = λ f q l has at.
    let (edges, is) = c.requires.held f q l has at in
    (edges, c.loop-place.invariant.grown.kept q edges is)

pub returns-in_err-resolve_one-clause-grows : goal.returns-in_err-resolve_one-clause-grows
returns-in_err-resolve_one-clause-grows c = grows_trans (get c.args.states.now) (get c.loop-place.states) (get c.resolve_one.new.states) c.loop-place.invariant.grown c.resolve_one.ensures.grows

pub loop-place-preserved : goal.loop-place-preserved
loop-place-preserved c = record {
  grown = grows_trans (get c.args.states.now) (get c.loop-place.states) (get c.resolve_one.new.states) c.loop-place.invariant.grown c.resolve_one.ensures.grows;
  resolved = c.in_ok-resolve_one.ensures.resolved;
}
