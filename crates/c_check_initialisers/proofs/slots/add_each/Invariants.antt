use Rattle.std.proofs.Common.{◌≡◌, ◌++◌, map, take}
use Rattle.c_check_initialisers.proofs.slots.add_each.Given as goal
use Rattle.c_check_initialisers.specs.CellView.{typed_expressions_of}
use Rattle.c_rules.specs.Initialisers.{typed_zero}
use Rattle.c_rules.specs.Scopes.{layout_of}
use Rattle.c_check_values.specs.View.{env_of}
use Rattle.c_tree.specs.Layout.{flat_all}
use Rattle.c_tree.specs.View.{ctypes_of}

abbrev pub invariant-loop-t : goal.invariant-loop-t
invariant-loop-t l = typed_expressions_of l.cells.items ≡ typed_expressions_of l.fn.cells.items ++ map typed_zero (flat_all (layout_of (env_of l.env)) (ctypes_of (take l.t-index l.ts)))
