use Rattle.dyck_monitor.proofs.Adding.{adds_noted}
use Rattle.dyck_monitor.proofs.moves.note.Goals as goal

pub returns : goal.returns
returns c = adds_noted c.args.node c.args.pool.now c.add.new.self c.add.result c.requires c.add.ensures.new c.add.ensures.added c.add.ensures.had c.add.ensures.same
