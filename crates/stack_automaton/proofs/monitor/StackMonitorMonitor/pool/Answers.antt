use Rattle.std.proofs.lemmas.Result.{IfOk-weaker}
use Rattle.stack_automaton.proofs.MonitorLemmas.{notes_none, remembers_nothing}
use Rattle.stack_automaton.proofs.ResultLemmas.{ok_both}
use Rattle.stack_automaton.proofs.monitor.StackMonitorMonitor.pool.Goals as goal

pub returns-clause-pool : goal.returns-clause-pool
returns-clause-pool c = ok_both c.new.result (λ pool remembered is. remembers_nothing pool c.args._model.now remembered is) c.new.ensures.remembered c.new.ensures.pool

pub returns-clause-notes : goal.returns-clause-notes
returns-clause-notes c = IfOk-weaker c.new.result _ _ (λ pool none. notes_none pool none) c.new.ensures.notes
