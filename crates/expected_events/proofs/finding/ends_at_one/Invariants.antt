use Rattle.std.proofs.Common.{take}
use Rattle.expected_events.specs.Marked.{EndsAtOne}
use Rattle.expected_events.proofs.finding.ends_at_one.Given as goal

abbrev pub invariant-loop-function : goal.invariant-loop-function
invariant-loop-function l = EndsAtOne l.model l.at (take l.function-index l.functions) → ⊥
