use Rattle.std.proofs.Common.{rules, ◌≡◌, Some, None}
use Rattle.slab.specs.Slab.{get}
use Rattle.std.specs.HashMap.{values}
use Rattle.stack_automaton.proofs.SeenLemmas.{there_seen, none_seen, missing_seen}
use Rattle.stack_automaton.proofs.pool.Pool.edges.Goals as goal

pub returns-in-Some-clause-there : goal.returns-in-Some-clause-there
returns-in-Some-clause-there c =
    let at : get c.self.inside.states c.args.key ≡ Some c.edges.result.now = search rules in
    λ edges found. there_seen c.args.self.now c.self.inside.states c.self.inside.last c.self.inside.notes.keys (values c.self.inside.memo.entries) c.self.view_is c.args.key c.edges.result.now edges at found

pub returns-in-Some-clause-none : goal.returns-in-Some-clause-none
returns-in-Some-clause-none c =
    let at : get c.self.inside.states c.args.key ≡ Some c.edges.result.now = search rules in
    λ found. absurd (none_seen c.args.self.now c.self.inside.states c.self.inside.last c.self.inside.notes.keys (values c.self.inside.memo.entries) c.self.view_is c.args.key c.edges.result.now at found)

pub returns-in-None-clause-there : goal.returns-in-None-clause-there
returns-in-None-clause-there c =
    let at : get c.self.inside.states c.args.key ≡ None = search rules in
    λ edges found. absurd (missing_seen c.args.self.now c.self.inside.states c.self.inside.last c.self.inside.notes.keys (values c.self.inside.memo.entries) c.self.view_is c.args.key edges at found)
