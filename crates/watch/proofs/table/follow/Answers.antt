use Rattle.std.proofs.Common.{List, [], ◌∷◌, ◌++◌, Some}
use Rattle.std.specs.Prelude.{Result, Ok, Err, OnErr}
use Rattle.watch.specs.Own.{own}
use Rattle.watch.proofs.StepLemmas.{watched_still, watched_alone, watched_both, watched_pool, step_told, next_fits, keeps_both, history_kept, on_err}
use Rattle.watch.proofs.table.follow.Goals as goal

pub advance-requires-clause-history : goal.advance-requires-clause-history
advance-requires-clause-history g c = next_fits g.M.Monitor c.args.setting.now c.args.pid c.args.event.now c.requires.watched.0 c.args.table.now c.args.pool.now c.requires.watched.1 c.requires.watched.2

pub born-requires-clause-history : goal.born-requires-clause-history
born-requires-clause-history g c = next_fits g.M.Monitor c.args.setting.now c.args.pid c.args.event.now c.requires.watched.0 c.args.table.now c.args.pool.now c.requires.watched.1 c.requires.watched.2

pub advance-requires-in-Some-clause-history : goal.advance-requires-in-Some-clause-history
advance-requires-in-Some-clause-history g c =
    next_fits g.M.Monitor c.args.setting.now c.args.pid c.args.event.now c.requires.watched.0 c.args.table.now c.born.new.pool
    (watched_pool g.M.Monitor c.args.setting.now c.args.pid c.args.event.now c.requires.watched.0 c.args.table.now c.args.pool.now c.born.new.pool c.in_ok-process-in-Some.ensures.pool c.requires.watched.1)
    c.requires.watched.2

pub returns-in_err-step-in-Some-clause-err : goal.returns-in_err-step-in-Some-clause-err
returns-in_err-step-in-Some-clause-err g c = on_err c.from_residual-in_err-step-in-Some.result (λ records are.
    watched_still g.M.Monitor c.args.setting.now c.args.pid c.args.event.now records c.args.table.now c.advance-in-Some.new.table c.born.new.pool c.advance-in-Some.new.pool c.in_err-step-in-Some.ensures.pool c.in_err-step-in-Some.ensures.others
    c.in_err-step-in-Some.ensures.same c.in_err-step-in-Some.ensures.err
    (watched_pool g.M.Monitor c.args.setting.now c.args.pid c.args.event.now records c.args.table.now c.args.pool.now c.born.new.pool c.born.ensures.pool are))

pub returns-in-Ok-clause-watched : goal.returns-in-Ok-clause-watched
returns-in-Ok-clause-watched g c = λ records are.
    watched_alone g.M.Monitor c.args.setting.now c.args.pid c.args.event.now records c.args.table.now c.advance.new.table c.args.pool.now c.advance.new.pool c.in-Ok.ensures.pool c.in-Ok.ensures.others
    c.in-Ok.ensures.history are c.in-Ok.ensures.keys c.in-None.ensures

pub returns-in-Ok-clause-exact : goal.returns-in-Ok-clause-exact
returns-in-Ok-clause-exact g c = λ records are.
    step_told g.M.Monitor c.args.setting.now c.args.pid c.args.event.now records c.args.table.now c.advance.new.table c.args.pool.now c.advance.new.pool c.in-Ok.ensures.pool c.in-Ok.ensures.others
    c.in-Ok.ensures.history are c.in-Ok.step c.in-Ok.ensures.exact

pub returns-in-Err-clause-err : goal.returns-in-Err-clause-err
returns-in-Err-clause-err g c = λ records are.
    watched_still g.M.Monitor c.args.setting.now c.args.pid c.args.event.now records c.args.table.now c.advance.new.table c.args.pool.now c.advance.new.pool c.in-Err.ensures.pool c.in-Err.ensures.others
    c.in-Err.ensures.same c.in-Err.ensures.err are

pub returns-in_ok-step-in-Some-clause-watched : goal.returns-in_ok-step-in-Some-clause-watched
returns-in_ok-step-in-Some-clause-watched g c = λ records are.
    let setting = c.args.setting.now in
    let h = own setting.version c.args.pid records in
    watched_both g.M.Monitor setting c.args.pid c.args.event.now records c.args.table.now c.advance-in-Some.new.table c.born.new.pool c.advance-in-Some.new.pool c.in_ok-step-in-Some.ensures.pool c.in_ok-step-in-Some.ensures.others
    c.in_ok-step-in-Some.ensures.history
    (watched_pool g.M.Monitor setting c.args.pid c.args.event.now records c.args.table.now c.args.pool.now c.born.new.pool c.in_ok-process-in-Some.ensures.pool are)
    c.add.new.table c.in-Some.child c.in_ok-process-in-Some.process c.in_ok-step-in-Some.ensures.keys c.in-Some.ensures
    (history_kept g.M.Monitor setting.model setting.bound c.born.new.pool c.advance-in-Some.new.pool (h ++ c.args.event.now ∷ []) (Some c.in_ok-process-in-Some.process) c.in_ok-step-in-Some.ensures.pool (c.in_ok-process-in-Some.ensures.history h (are.each c.args.pid)))
    c.add.ensures.added c.add.ensures.others c.add.ensures.keys

pub returns-in_ok-step-in-Some-clause-exact : goal.returns-in_ok-step-in-Some-clause-exact
returns-in_ok-step-in-Some-clause-exact g c = λ records are.
    step_told g.M.Monitor c.args.setting.now c.args.pid c.args.event.now records c.args.table.now c.advance-in-Some.new.table c.born.new.pool c.advance-in-Some.new.pool c.in_ok-step-in-Some.ensures.pool c.in_ok-step-in-Some.ensures.others
    c.in_ok-step-in-Some.ensures.history
    (watched_pool g.M.Monitor c.args.setting.now c.args.pid c.args.event.now records c.args.table.now c.args.pool.now c.born.new.pool c.in_ok-process-in-Some.ensures.pool are)
    c.in_ok-step-in-Some.step c.in_ok-step-in-Some.ensures.exact
