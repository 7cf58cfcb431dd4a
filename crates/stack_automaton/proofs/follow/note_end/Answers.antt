use Rattle.stack_automaton.proofs.FactLemmas.{number_gained}
use Rattle.stack_automaton.proofs.FollowingLemmas.{end_noted}
use Rattle.stack_automaton.proofs.follow.note_end.Goals as goal

pub returns-in_ok-insert : goal.returns-in_ok-insert
returns-in_ok-insert c = end_noted c.args.ended.now.keys c.insert.new.self.keys c.args.functions.now c.args.fact c.in-Some.function c.in-Some.ensures.some (number_gained c.args.ended.now.keys c.insert.new.self.keys c.in-Some.function c.in_ok-insert.ensures.updates.0)
