use Rattle.std.proofs.Common.{◌≡◌, take}
use Rattle.flow_model.specs.Growth.{Adds, HasOne}
use Rattle.inline_model.proofs.within.follow_sys.Given as goal

abbrev pub invariant-loop-edge : goal.invariant-loop-edge
invariant-loop-edge l = Adds l.fn.pool l.pool (HasOne (λ e b. e.to ≡ b) (take l.edge-index l.edge-items))
