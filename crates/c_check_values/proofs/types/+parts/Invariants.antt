use Rattle.std.proofs.Common.{◌≡◌, ◌+◌, drop}
use Rattle.c_tree.specs.View.{types_of}
use Rattle.c_check_scopes.specs.Types.{parts_of_all}
use Rattle.c_check_values.proofs.types.+parts.Given as goal

abbrev pub invariant-left_of_all-loop-t : goal.invariant-left_of_all-loop-t
invariant-left_of_all-loop-t l = l.left + parts_of_all (types_of l.ts) ≡ l.most + parts_of_all (types_of (drop l.t-index l.ts))
