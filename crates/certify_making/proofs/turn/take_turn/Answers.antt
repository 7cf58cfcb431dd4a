use Rattle.certify_making.proofs.TurnLemmas.{cannot_turn, turn_made}
use Rattle.certify_making.proofs.turn.take_turn.Goals as goal

pub returns-in-Err-clause-large : goal.returns-in-Err-clause-large
returns-in-Err-clause-large c = cannot_turn c.args.model.now c.args.trace.now c.args.fact c.args.number c.args.facts.now.lines.items c.deref.result.now c.args.notes.now c.in_ok-found.found.items c.deref-2.result.now c.deref.ensures.value c.deref-2.ensures.value
    c.in_ok-found.ensures c.in-Err.error c.in-Err.ensures.large

pub returns-clause-turn : goal.returns-clause-turn
returns-clause-turn c = turn_made c.args.model.now c.args.trace.now c.args.fact c.args.number c.args.facts.now.lines.items c.deref.result.now c.args.notes.now c.in_ok-found.found.items c.deref-2.result.now c.deref.ensures.value c.deref-2.ensures.value
    c.in_ok-found.ensures c.add_each.new.self.lines.items c.note.new.notes c.in-Ok.ensures.adds c.in_ok-note.ensures
