use Rattle.certify_making.proofs.TurnLemmas.{noted_more, noted_same}
use Rattle.certify_making.proofs.turn.note.Goals as goal

pub returns-in_ok-add : goal.returns-in_ok-add
returns-in_ok-add c = noted_more c.args.model.now c.args.fact c.args.number c.args.notes.now c.add.new.self c.in-Some.key c.in-Some.ensures c.in_ok-add.ensures

pub returns-in_default : goal.returns-in_default
returns-in_default c = noted_same c.args.model.now c.args.fact c.args.number c.args.notes.now c.in_default.ensures
