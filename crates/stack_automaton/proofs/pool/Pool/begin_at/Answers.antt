use Rattle.std.specs.HashMap.{values}
use Rattle.stack_automaton.specs.Held.{IsThere}
use Rattle.stack_automaton.specs.Moving.{LeadsBy}
use Rattle.stack_automaton.proofs.SeenLemmas.{one_seen, seen_one}
use Rattle.stack_automaton.proofs.pool.Pool.begin_at.Goals as goal

pub begin_at-requires : goal.begin_at-requires
begin_at-requires c = one_seen c.args.self.now c.self.inside.states c.self.inside.last c.self.inside.notes.keys (values c.self.inside.memo.entries) c.self.view_is (λ s. IsThere s c.args.key) c.requires

pub returns-clause-leads : goal.returns-clause-leads
returns-clause-leads c = seen_one c.args.self.now c.self.inside.states c.self.inside.last c.self.inside.notes.keys (values c.self.inside.memo.entries) c.self.view_is (λ s. LeadsBy c.args.model.now s c.args.key c.args.event.now c.begin_at.new.facts.keys) c.in_ok-begin_at.ensures.leads
