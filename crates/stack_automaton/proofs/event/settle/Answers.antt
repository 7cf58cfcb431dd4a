use Rattle.stack_automaton.proofs.event.settle.Goals as goal

pub returns-clause-stored : goal.returns-clause-stored
returns-clause-stored c = c.in_ok-key.ensures.stored c.args.begin.keys (record { closure = c.in_ok-done.ensures; there = c.requires.there })

pub store-requires-clause-event : goal.store-requires-clause-event
store-requires-clause-event c = (c.args.begin.keys, record { closure = c.in_ok-done.ensures; there = c.requires.there })
