use Rattle.std.proofs.Common.{◌≡◌, ◌≤◌, take, drop}
use Rattle.text_places.specs.Lines.{last_line}
use Rattle.text_places.proofs.excerpt.last_line.Given as goal

abbrev pub invariant-loop-i : goal.invariant-loop-i
invariant-loop-i l = record { within : l.begin ≤ l.i; last : last_line (take l.i l.bytes) ≡ drop l.begin (take l.i l.bytes) }
