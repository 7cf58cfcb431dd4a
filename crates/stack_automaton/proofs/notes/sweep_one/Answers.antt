use Rattle.std.proofs.Common.{◌≢◌, rules, sym, ◌∙◌}
use Rattle.std.proofs.lemmas.Bool.{false≢true}
use Rattle.slab.specs.Slab.{get}
use Rattle.stack_automaton.proofs.NotingLemmas.{freed_kept, freed_fewer}
use Rattle.stack_automaton.proofs.notes.sweep_one.Goals as goal

pub returns-clause-kept : goal.returns-clause-kept
returns-clause-kept c =
    let other : c.args.key ≢ c.args.last = search rules in
    freed_kept (get c.args.states.now) (get c.try_remove.new.self) c.args.key c.try_remove.ensures.updates.others c.args.noted.now.keys c.args.last other
    (λ has. false≢true (sym c.if-is_noted.false ∙ c.is_noted.ensures.1 has))

pub returns-clause-fewer : goal.returns-clause-fewer
returns-clause-fewer c = freed_fewer (get c.args.states.now) (get c.try_remove.new.self) c.args.key c.try_remove.ensures.updates.others c.try_remove.ensures.updates.changed
