use Rattle.std.proofs.Common.{◌≡◌, length, map, take}
use Rattle.c_rules.specs.Scopes.{layout_of}
use Rattle.c_check_values.specs.View.{env_of}
use Rattle.c_tree.specs.View.{members_in}
use Rattle.c_check_units.proofs.structs.structs_of.Given as goal

abbrev pub invariant-loop-s : goal.invariant-loop-s
invariant-loop-s l = length (env_of l.env).structs ≡ l.count → map members_in l.structs.items ≡ take l.s (layout_of (env_of l.env))
