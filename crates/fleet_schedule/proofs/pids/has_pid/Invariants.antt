use Rattle.std.proofs.Common.{◌≡◌, ℕ, ◌<◌, get_or}
use Rattle.fleet_schedule.specs.declared.line.Line.{Line}
use Rattle.fleet_schedule.proofs.pids.has_pid.Given as goal

-- no process before this one has the number
abbrev pub invariant-loop-process : goal.invariant-loop-process
invariant-loop-process l = (k : ℕ) (d : Line) → k < l.process-index → (get_or l.processes k d).pid ≡ l.pid → ⊥
