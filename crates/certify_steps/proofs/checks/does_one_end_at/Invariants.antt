use Rattle.std.proofs.Common.{◌≡◌, take}
use Rattle.dm_base.specs.Adding.{Has}
use Rattle.certify_steps.proofs.checks.does_one_end_at.Given as goal

abbrev pub invariant-loop-edge : goal.invariant-loop-edge
invariant-loop-edge l = Has (λ e. e.to ≡ l.node) (take l.edge-index l.edges) → ⊥
