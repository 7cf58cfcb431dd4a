use Rattle.std.proofs.Common.{take}
use Rattle.dm_base.specs.Fits.{Fits}
use Rattle.dm_base.specs.Adding.{Has}
use Rattle.certify_steps.proofs.checks.is_one_read.Given as goal

abbrev pub invariant-loop-edge : goal.invariant-loop-edge
invariant-loop-edge l = Has (λ e. Fits e.name e.args l.event) (take l.edge-index l.edges) → ⊥
