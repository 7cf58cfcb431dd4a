use Rattle.std.proofs.Common.{refl}
use Rattle.dm_base.specs.declared.verdict.Step.TheVariants.{Kept}
use Rattle.stack_automaton.proofs.MonitorLemmas.{pool_of_grown, stands_still, notes_still, opened, first_held, first_there}
use Rattle.stack_automaton.proofs.StandingLemmas.{has_start, empty_accepted}
use Rattle.stack_automaton.proofs.monitor.StackMonitorMonitor.open.Goals as goal

pub settle-requires-clause-held : goal.settle-requires-clause-held
settle-requires-clause-held c = first_held c.in_ok-facts.facts.keys c.index-functions-start.result.entry c.last.result c.in_ok-facts.ensures

pub settle-requires-clause-there : goal.settle-requires-clause-there
settle-requires-clause-there c = first_there c.args.pool.now c.in_ok-facts.facts.keys c.index-functions-start.result.entry c.last.result c.requires.pool.pool c.last.ensures c.in_ok-facts.ensures

pub returns-clause-empty : goal.returns-clause-empty
returns-clause-empty c =
    let one = c.index-functions-start.result in
    empty_accepted c.args.model.now c.args.bound one.entry one.exit
    (has_start c.args.model.now c.functions.result.now c.start.result one c.functions.ensures c.start.ensures.start c.nodes-nodes.ensures.valid.functions.start c.index-functions-start.is)

pub returns-clause-stands : goal.returns-clause-stands
returns-clause-stands c =
    let one = c.index-functions-start.result in
    opened (record { answer = Kept; key = c.in_ok-at.at }) c.args.pool.now c.settle.new.self c.args.model.now c.args.bound one.entry one.exit c.last.result c.in_ok-facts.facts.keys refl c.requires.pool.pool c.settle.ensures.last c.last.ensures
    (has_start c.args.model.now c.functions.result.now c.start.result one c.functions.ensures c.start.ensures.start c.nodes-nodes.ensures.valid.functions.start c.index-functions-start.is)
    c.in_ok-facts.ensures c.in_ok-at.ensures.stored c.in_ok-at.ensures.there

pub returns-in_err-at-clause-pool : goal.returns-in_err-at-clause-pool
returns-in_err-at-clause-pool c = pool_of_grown c.args.pool.now c.settle.new.self c.settle.ensures.grows c.settle.ensures.last c.args.model.now c.settle.ensures.remembered c.requires.pool

pub returns-in_err-at-clause-others : goal.returns-in_err-at-clause-others
returns-in_err-at-clause-others c = λ m k h stands. stands_still c.args.pool.now c.settle.new.self c.settle.ensures.grows c.settle.ensures.last c.requires.pool.pool m c.args.model.now k h stands

pub returns-in_err-at-clause-notes : goal.returns-in_err-at-clause-notes
returns-in_err-at-clause-notes c = notes_still c.args.pool.now c.settle.new.self c.settle.ensures.notes

pub returns-clause-pool : goal.returns-clause-pool
returns-clause-pool c = pool_of_grown c.args.pool.now c.settle.new.self c.settle.ensures.grows c.settle.ensures.last c.args.model.now c.settle.ensures.remembered c.requires.pool

pub returns-clause-others : goal.returns-clause-others
returns-clause-others c = λ m k h stands. stands_still c.args.pool.now c.settle.new.self c.settle.ensures.grows c.settle.ensures.last c.requires.pool.pool m c.args.model.now k h stands

pub returns-clause-notes : goal.returns-clause-notes
returns-clause-notes c = notes_still c.args.pool.now c.settle.new.self c.settle.ensures.notes
