use Rattle.std.proofs.Common.{◌≡◌, ◌++◌, take, flat_map}
use Rattle.expected_events.specs.Text.{call_line}
use Rattle.expected_events.proofs.writing.push_calls.Given as goal

abbrev pub invariant-loop-called : goal.invariant-loop-called
invariant-loop-called l = l.text.items ≡ l.fn.text.items ++ flat_map call_line (take l.called-index l.calls)
