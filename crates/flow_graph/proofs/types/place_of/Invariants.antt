use Rattle.std.proofs.Common.{◌≡◌, ◌+◌, drop}
use Rattle.c_tree.specs.View.{ctype_of}
use Rattle.flow_graph.specs.Types.{types_at, first_place}
use Rattle.flow_graph.proofs.types.place_of.Given as goal

abbrev pub invariant-loop-k : goal.invariant-loop-k
invariant-loop-k l = first_place (ctype_of l.t) (types_at l.types) ≡ l.k + first_place (ctype_of l.t) (types_at (drop l.k l.types))
