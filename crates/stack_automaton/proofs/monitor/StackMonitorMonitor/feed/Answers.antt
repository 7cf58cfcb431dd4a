use Rattle.std.proofs.Common.{◌++◌, ◌∷◌, [], sym, subst}
use Rattle.std.proofs.lemmas.Result.{on_err_weaker}
use Rattle.stack_automaton.specs.Standing.{StandsFor}
use Rattle.stack_automaton.proofs.MonitorLemmas.{stands_still, notes_still, answered}
use Rattle.stack_automaton.proofs.ResultLemmas.{ok_both}
use Rattle.stack_automaton.proofs.monitor.StackMonitorMonitor.feed.Goals as goal

pub returns-clause-exact : goal.returns-clause-exact
returns-clause-exact c =
    ok_both c.take.result (λ step answer stands. λ k h before. answered c.take.new.self c.take.new.pool c.args.model.now k (h ++ c.args.event.now ∷ []) step answer (stands k h before)) c.take.ensures.answer c.take.ensures.stands

pub returns-clause-err : goal.returns-clause-err
returns-clause-err c =
    on_err_weaker c.take.result
    (λ same. λ k h stands. subst (λ m. StandsFor m c.take.new.pool c.args.model.now k h) (sym same)
    (stands_still c.args.pool.now c.take.new.pool c.take.ensures.grows c.take.ensures.last c.requires.pool.pool c.args.self.now c.args.model.now k h stands))
    c.take.ensures.err

pub returns-clause-others : goal.returns-clause-others
returns-clause-others c = λ m k h stands. stands_still c.args.pool.now c.take.new.pool c.take.ensures.grows c.take.ensures.last c.requires.pool.pool m c.args.model.now k h stands

pub returns-clause-notes : goal.returns-clause-notes
returns-clause-notes c = notes_still c.args.pool.now c.take.new.pool c.take.ensures.notes
