use Rattle.stack_automaton.proofs.monitor.StackMonitorMonitor.TheImpl.Goals as goal

pub sweep-tells : goal.sweep-tells
sweep-tells _ _ c = record {
  pool = λ g was. c.ensures.pool g was.pool;
  notes = λ g was. c.ensures.notes g was.pool;
  exact = λ g ms was. c.ensures.exact g ms was.pool;
  over = c.ensures.over;
  kept = c.ensures.kept;
}
