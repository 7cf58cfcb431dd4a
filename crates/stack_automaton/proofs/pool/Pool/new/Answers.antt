use Rattle.std.specs.HashMap.{values}
use Rattle.stack_automaton.proofs.SeenLemmas.{pool_seen}
use Rattle.stack_automaton.proofs.pool.Pool.new.Goals as goal

pub returns-clause-pool : goal.returns-clause-pool
returns-clause-pool c = pool_seen c.new-states.result c.insert.new.self c.in_ok-last.last c.empty.result c.new-notes.result.keys (values c.new-memo.result.entries) c.new-states.ensures.empty c.in_ok-last.ensures.updates.changed c.in_ok-last.ensures.updates.others c.empty.ensures
