use Rattle.std.proofs.Common.{◌≡◌, map, take}
use Rattle.c_check_initialisers.proofs.strings.text_cells.Given as goal
use Rattle.c_check_initialisers.specs.CellView.{typed_expressions_of}
use Rattle.c_rules.specs.Initialisers.{typed_char}

abbrev pub invariant-loop-byte : goal.invariant-loop-byte
invariant-loop-byte l = typed_expressions_of l.cells.items ≡ map typed_char (take l.byte-index l.text)
