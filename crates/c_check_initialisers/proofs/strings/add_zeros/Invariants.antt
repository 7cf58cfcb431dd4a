use Rattle.std.proofs.Common.{◌≡◌, ◌++◌}
use Rattle.std.specs.Prelude.{replicate}
use Rattle.c_check_initialisers.proofs.strings.add_zeros.Given as goal
use Rattle.c_check_initialisers.specs.CellView.{typed_expressions_of}
use Rattle.c_rules.specs.Initialisers.{typed_char}

abbrev pub invariant-loop : goal.invariant-loop
invariant-loop l = typed_expressions_of l.cells.items ≡ typed_expressions_of l.fn.cells.items ++ replicate l.counter (typed_char 0)
