use Rattle.std.specs.HashMap.{values}
use Rattle.stack_automaton.proofs.MemoLemmas.{noted}
use Rattle.stack_automaton.proofs.memo.Memo.note.Goals as goal

pub returns : goal.returns
returns c = noted (values c.args.self.now.entries) (values c.make_room.new.self.entries) (values c.put.new.self.entries) (record { begin = c.args.begin.items; key = c.args.key }) c.make_room.ensures c.put.ensures
