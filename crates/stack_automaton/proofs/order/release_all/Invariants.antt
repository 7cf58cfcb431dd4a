use Rattle.std.proofs.Common.{◌-◌, ◌^◌}
use Rattle.stack_automaton.proofs.order.release_all.Given as goal

abbrev pub decreases-loop-next : goal.decreases-loop-next
decreases-loop-next l = 2 ^ 64 - l.i
