use Rattle.std.proofs.Common.{◌≡◌, ◌++◌, take}
use Rattle.text_places.specs.Lines.{shown}
use Rattle.text_places.proofs.writing.push_shown.Given as goal

abbrev pub invariant-loop-b : goal.invariant-loop-b
invariant-loop-b l = l.text.items ≡ l.initial.text.items ++ shown (take l.b-index l.bytes)
