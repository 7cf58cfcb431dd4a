use Rattle.std.proofs.Common.{◌≡◌, ℕ, ◌<◌, get_or}
use Rattle.fleet.specs.declared.process.Process.{Process}
use Rattle.fleet.proofs.places.place_of.Given as goal

-- no process before this place has the number
abbrev pub invariant-loop-place : goal.invariant-loop-place
invariant-loop-place l = (k : ℕ) (d : Process) → k < l.place → (get_or l.processes k d).pid ≡ l.pid → ⊥
