use Rattle.std.proofs.Common.{take}
use Rattle.dm_base.specs.Adding.{Has}
use Rattle.stack_automaton.specs.Following.{EndsAt}
use Rattle.stack_automaton.proofs.follow.is_exit_of_one.Given as goal

abbrev pub invariant-loop-function : goal.invariant-loop-function
invariant-loop-function l = Has (EndsAt l.functions l.node) (take l.function-index l.candidates) → ⊥
