use Rattle.std.proofs.Common.{rules}
use Rattle.slab.specs.Slab.{get}
use Rattle.stack_automaton.proofs.GrowingLemmas.{grows_trans, held_there}
use Rattle.stack_automaton.proofs.ResolvingLemmas.{all_stored}
use Rattle.stack_automaton.proofs.store.store_entered.Goals as goal

pub resolve-requires : goal.resolve-requires
resolve-requires c = let (begin, event) = c.requires.event in record { held = held_there c.args.model.now (get c.args.states.now) begin c.args.done.now event c.requires.closed }

pub store_others-requires-clause-event : goal.store_others-requires-clause-event
store_others-requires-clause-event c = let (begin, event) = c.requires.event in (begin, get c.args.states.now, event, c.requires.closed, c.resolve.ensures.grows)

pub returns-in_err-keys-clause-grows : goal.returns-in_err-keys-clause-grows
returns-in_err-keys-clause-grows c = grows_trans (get c.args.states.now) (get c.resolve.new.states) (get c.store_others.new.states) c.resolve.ensures.grows c.store_others.ensures.grows

pub returns-clause-grows : goal.returns-clause-grows
returns-clause-grows c = grows_trans (get c.args.states.now) (get c.resolve.new.states) (get c.store_others.new.states) c.resolve.ensures.grows c.store_others.ensures.grows

pub returns-then-are_all_known-clause-entered : goal.returns-then-are_all_known-clause-entered
returns-then-are_all_known-clause-entered c =
    let (begin, event) = c.requires.event in
    all_stored c.args.model.now c.args.done.now (get c.resolve.new.states) c.resolve.new.found.keys.items c.resolve.new.found.known.keys c.in_ok-resolve.ensures.resolved (search rules) (get c.args.states.now) begin event c.requires.closed c.resolve.ensures.grows
