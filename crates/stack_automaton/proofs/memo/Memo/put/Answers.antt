use Rattle.stack_automaton.proofs.MemoLemmas.{values_noted}
use Rattle.stack_automaton.proofs.memo.Memo.put.Goals as goal

pub returns : goal.returns
returns c = values_noted c.insert-noted.result c.args.self.now.entries c.insert-noted.new.self c.digest-digest.result c.new.result (record { begin = c.args.begin.items; key = c.args.key }) c.insert-noted.ensures.entries c.insert-noted.ensures.err c.new.ensures
