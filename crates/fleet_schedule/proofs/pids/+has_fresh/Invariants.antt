use Rattle.std.proofs.Common.{ℕ, ◌+◌, ◌*◌, ◌-◌, ◌<◌}
use Rattle.line_text.specs.Numbers.{IsFrontOf}
use Rattle.fleet_schedule.specs.Lines.{IsFresh}
use Rattle.fleet_schedule.proofs.pids.+has_fresh.Given as goal

abbrev pub decreases-has_fresh : goal.decreases-has_fresh
decreases-has_fresh l = 4294967296 - l.front

-- no number goes on with a lower digit
abbrev pub invariant-loop-digit : goal.invariant-loop-digit
invariant-loop-digit l = (d n : ℕ) → d < l.digit → IsFresh l.processes n → IsFrontOf (10 * l.front + d) n → ⊥
