use Rattle.std.proofs.Common.{◌≡◌, ◌+◌, ◌<◌, ◌^◌, drop}
use Rattle.c_rules.specs.Scopes.{layout_of}
use Rattle.c_check_values.specs.View.{env_of}
use Rattle.c_tree.specs.Layout.{cells_of_all}
use Rattle.c_tree.specs.View.{ctypes_of}
use Rattle.c_check_units.proofs.bodies.cells_of_types.Given as goal

abbrev pub invariant-loop-t : goal.invariant-loop-t
invariant-loop-t l =
    (l.sum + cells_of_all (layout_of (env_of l.env)) (ctypes_of (drop l.t-index l.types)) ≡ cells_of_all (layout_of (env_of l.env)) (ctypes_of l.types)) × (l.sum < 2 ^ 32)
