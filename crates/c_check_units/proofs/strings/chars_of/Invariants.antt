use Rattle.std.proofs.Common.{◌≡◌, take}
use Rattle.c_check_units.specs.Chars.{chars}
use Rattle.c_check_units.proofs.strings.chars_of.Given as goal

abbrev pub invariant-loop-b : goal.invariant-loop-b
invariant-loop-b l = l.cells.items ≡ chars (take l.b-index l.bytes)
