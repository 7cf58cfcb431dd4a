use Rattle.std.proofs.Common.{take}
use Rattle.dm_base.specs.Adding.{Has}
use Rattle.certify_steps.specs.Reading.{BeginsAt}
use Rattle.certify_steps.proofs.checks.does_one_begin_at.Given as goal

abbrev pub invariant-loop-function : goal.invariant-loop-function
invariant-loop-function l = Has (λ f. BeginsAt l.functions f l.node) (take l.function-index l.candidates) → ⊥
