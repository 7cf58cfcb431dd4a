use Rattle.std.proofs.Common.{◌≡◌, ◌++◌, take, flat_map, slice_get}
use Rattle.expected_events.specs.Text.{in_line}
use Rattle.expected_events.proofs.writing.push_functions.Given as goal

abbrev pub invariant-loop-function : goal.invariant-loop-function
invariant-loop-function l = l.text.items ≡ l.fn.text.items ++ flat_map (λ f. in_line (slice_get l.model.functions f)) (take l.function-index l.functions)
