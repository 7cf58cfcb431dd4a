use Rattle.std.proofs.Common.{◌≡◌, ℕ, List, Some}
use Rattle.std.specs.HashMap.{values}
use Rattle.stack_automaton.specs.declared.place.Edge.{Edge}
use Rattle.stack_automaton.proofs.SeenLemmas.{both_seen, kept_seen, gone_seen}
use Rattle.stack_automaton.proofs.pool.Pool.sweep.Goals as goal

pub returns-clause-kept : goal.returns-clause-kept
returns-clause-kept c = kept_seen c.args.self.now c.self.inside.states c.self.inside.last c.self.inside.notes.keys (values c.self.inside.memo.entries) c.self.view_is c.sweep_states.new.states c.sweep_states.ensures.kept

pub returns-clause-gone : goal.returns-clause-gone
returns-clause-gone c = gone_seen c.args.self.now c.self.inside.states c.self.inside.last c.self.inside.notes.keys (values c.self.inside.memo.entries) c.self.view_is c.sweep_states.new.states c.sweep_states.ensures.gone

pub returns-clause-fewer : goal.returns-clause-fewer
returns-clause-fewer c = both_seen c.args.self.now c.self.inside.states c.self.inside.last c.self.inside.notes.keys (values c.self.inside.memo.entries) c.self.view_is (λ old new. (k : ℕ) (edges : List Edge) → new k ≡ Some edges → old k ≡ Some edges) c.sweep_states.new.states c.sweep_states.ensures.fewer
