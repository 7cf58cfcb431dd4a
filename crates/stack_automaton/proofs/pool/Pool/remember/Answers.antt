use Rattle.std.proofs.Common.{◌≡◌, ◌⊎◌, Contains}
use Rattle.std.specs.HashMap.{values}
use Rattle.stack_automaton.specs.Seen.{Memory}
use Rattle.stack_automaton.proofs.SeenLemmas.{at_pool}
use Rattle.stack_automaton.proofs.pool.Pool.remember.Goals as goal

pub returns-clause-remembered : goal.returns-clause-remembered
returns-clause-remembered c =
    at_pool c.args.self.now c.self.inside.states c.self.inside.last c.self.inside.notes.keys (values c.self.inside.memo.entries) c.self.view_is
    (λ q. (m : Memory) → Contains (values c.note.new.self.entries) m → Contains q.remembered m ⊎ (m ≡ record { begin = c.args.begin.items; key = c.args.key })) c.note.ensures
