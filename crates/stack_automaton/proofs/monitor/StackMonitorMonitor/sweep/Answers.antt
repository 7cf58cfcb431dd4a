use Rattle.stack_automaton.proofs.MonitorLemmas.{pool_swept, remembers_nothing, stands_swept, needed_swept, stands_over}
use Rattle.stack_automaton.proofs.monitor.StackMonitorMonitor.sweep.Goals as goal

pub returns-clause-pool : goal.returns-clause-pool
returns-clause-pool c = λ g pool.
    let (model, ms, was, notes) = c.requires in
    remembers_nothing c.sweep.new.self g c.sweep.ensures.remembered (pool_swept c.args.pool.now c.sweep.new.self c.sweep.ensures.last c.sweep.ensures.kept c.sweep.ensures.gone ms notes pool)

pub returns-clause-exact : goal.returns-clause-exact
returns-clause-exact c = λ g ms pool notes. needed_swept c.args.pool.now c.sweep.new.self c.sweep.ensures.last c.sweep.ensures.kept c.sweep.ensures.gone ms notes pool

pub returns-clause-over : goal.returns-clause-over
returns-clause-over c = λ m g k h not stands. stands_over m c.args.pool.now c.sweep.new.self g k h not stands

pub returns-clause-kept : goal.returns-clause-kept
returns-clause-kept c = λ g ms m k h notes has stands. stands_swept c.args.pool.now c.sweep.new.self c.sweep.ensures.last c.sweep.ensures.kept c.sweep.ensures.gone ms notes m g k h has stands
