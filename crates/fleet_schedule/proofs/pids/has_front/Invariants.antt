use Rattle.std.proofs.Common.{ℕ, ◌<◌, get_or}
use Rattle.line_text.specs.Numbers.{IsFrontOf}
use Rattle.fleet_schedule.specs.declared.line.Line.{Line}
use Rattle.fleet_schedule.proofs.pids.has_front.Given as goal

-- no process before this one has a number that begins so
abbrev pub invariant-loop-process : goal.invariant-loop-process
invariant-loop-process l = (k : ℕ) (d : Line) → k < l.process-index → IsFrontOf l.front (get_or l.processes k d).pid → ⊥
