use Rattle.std.specs.HashMap.{values}
use Rattle.stack_automaton.specs.Held.{IsThere}
use Rattle.stack_automaton.specs.Storing.{IsClosed, Grows, IsStored}
use Rattle.stack_automaton.proofs.SeenLemmas.{one_seen, both_seen}
use Rattle.stack_automaton.proofs.pool.Pool.settle.Goals as goal

pub settle-requires-clause-there : goal.settle-requires-clause-there
settle-requires-clause-there c = λ b q is. one_seen c.args.self.now c.self.inside.states c.self.inside.last c.self.inside.notes.keys (values c.self.inside.memo.entries) c.self.view_is (λ s. IsThere s q) (c.requires.there b q is)

pub settle-requires-clause-closed : goal.settle-requires-clause-closed
settle-requires-clause-closed c = one_seen c.args.self.now c.self.inside.states c.self.inside.last c.self.inside.notes.keys (values c.self.inside.memo.entries) c.self.view_is IsClosed c.requires.pool.closed

pub returns-in_err-key-clause-grows : goal.returns-in_err-key-clause-grows
returns-in_err-key-clause-grows c = both_seen c.args.self.now c.self.inside.states c.self.inside.last c.self.inside.notes.keys (values c.self.inside.memo.entries) c.self.view_is Grows c.settle.new.states c.settle.ensures.grows

pub returns-clause-grows : goal.returns-clause-grows
returns-clause-grows c = both_seen c.args.self.now c.self.inside.states c.self.inside.last c.self.inside.notes.keys (values c.self.inside.memo.entries) c.self.view_is Grows c.settle.new.states c.settle.ensures.grows

pub returns-clause-stored : goal.returns-clause-stored
returns-clause-stored c = both_seen c.args.self.now c.self.inside.states c.self.inside.last c.self.inside.notes.keys (values c.self.inside.memo.entries) c.self.view_is (λ old new. IsStored c.args.model.now old new c.args.begin.keys c.in_ok-key.key) c.settle.new.states c.in_ok-key.ensures.stored

pub returns-clause-there : goal.returns-clause-there
returns-clause-there c = both_seen c.args.self.now c.self.inside.states c.self.inside.last c.self.inside.notes.keys (values c.self.inside.memo.entries) c.self.view_is (λ old new. IsThere new c.in_ok-key.key) c.settle.new.states c.in_ok-key.ensures.there
