use Rattle.std.proofs.Common.{◌≡◌, ◌++◌, map}
use Rattle.c_check_initialisers.proofs.slots.add_copies.Given as goal
use Rattle.c_check_initialisers.specs.CellView.{typed_expressions_of}
use Rattle.c_rules.specs.Initialisers.{typed_zero}
use Rattle.c_rules.specs.Scopes.{layout_of}
use Rattle.c_check_values.specs.View.{env_of}
use Rattle.c_tree.specs.Layout.{flat, repeat}
use Rattle.c_tree.specs.View.{ctype_of}

abbrev pub invariant-loop : goal.invariant-loop
invariant-loop l = typed_expressions_of l.cells.items ≡ typed_expressions_of l.fn.cells.items ++ map typed_zero (repeat l.counter (flat (layout_of (env_of l.env)) (ctype_of l.t)))
