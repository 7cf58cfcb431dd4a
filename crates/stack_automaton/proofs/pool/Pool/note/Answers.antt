use Rattle.std.specs.HashMap.{values}
use Rattle.stack_automaton.proofs.SeenLemmas.{noted_seen}
use Rattle.stack_automaton.proofs.pool.Pool.note.Goals as goal

pub returns-in-Ok-clause-ok : goal.returns-in-Ok-clause-ok
returns-in-Ok-clause-ok c = noted_seen c.args.self.now c.self.inside.states c.self.inside.last c.self.inside.notes.keys (values c.self.inside.memo.entries) c.self.view_is c.note_from.new.noted.keys c.args.key c.in-Ok.ensures
