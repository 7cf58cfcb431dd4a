use Rattle.std.proofs.Common.{arith}
use Rattle.stack_automaton.proofs.resolve.begin.Goals as goal

pub returns-clause-long : goal.returns-clause-long
returns-clause-long c = omega (arith, c.in_ok-resize.ensures.len, c.resize.new.self.ok)
