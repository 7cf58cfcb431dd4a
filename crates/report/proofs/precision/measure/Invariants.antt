use Rattle.std.proofs.Common.{take}
use Rattle.report.specs.Measuring.{HasMeasured}
use Rattle.report.proofs.precision.measure.Given as goal

abbrev pub invariant-loop-event : goal.invariant-loop-event
invariant-loop-event g l = HasMeasured g.M.Monitor.is_pool g.M.Monitor.stands g.M.Monitor.noted g.M.Monitor.WHICH l.measuring l.model (take l.event-index l.trace)
