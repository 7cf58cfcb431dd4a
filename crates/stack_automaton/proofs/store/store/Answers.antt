use Rattle.std.proofs.lemmas.Result.{IfOk-weaker}
use Rattle.slab.specs.Slab.{get}
use Rattle.stack_automaton.proofs.GrowingLemmas.{top_grows, top_stored}
use Rattle.stack_automaton.proofs.store.store.Goals as goal

pub returns-clause-grows : goal.returns-clause-grows
returns-clause-grows c =
    top_grows (get c.args.states.now) (get c.store_entered.new.states) (get c.share.new.states) c.args.done.now c.store_entered.new.found.keys.items c.deref.result.now c.as_slice.result.now c.tops.new.edges.items c.deref-2.result.now
    c.deref.ensures.value c.as_slice.ensures c.deref-2.ensures.value c.store_entered.ensures.grows c.in_ok-store_entered.ensures.entered c.in_ok-tops.ensures c.share.ensures.grows

pub returns-clause-stored : goal.returns-clause-stored
returns-clause-stored c = IfOk-weaker c.share.result _ _ (λ key found. λ begin event.
    top_stored (get c.args.states.now) (get c.store_entered.new.states) (get c.share.new.states) c.args.done.now c.store_entered.new.found.keys.items c.deref.result.now c.as_slice.result.now c.tops.new.edges.items c.deref-2.result.now
    c.deref.ensures.value c.as_slice.ensures c.deref-2.ensures.value c.store_entered.ensures.grows c.in_ok-store_entered.ensures.entered c.in_ok-tops.ensures c.share.ensures.grows
    c.args.model.now begin key c.requires.closed found event) c.share.ensures.found

pub returns-clause-there : goal.returns-clause-there
returns-clause-there c = IfOk-weaker c.share.result _ _ (λ key found. (c.deref-2.result.now, found)) c.share.ensures.found
