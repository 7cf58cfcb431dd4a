use Rattle.std.proofs.Common.{◌≡◌, drop}
use Rattle.c_tree.specs.View.{groups_of}
use Rattle.c_meaning.specs.ShapeOf.{has_default}
use Rattle.flow_graph.proofs.statements.has_default.Given as goal

abbrev pub invariant-loop-group : goal.invariant-loop-group
invariant-loop-group l = has_default (groups_of (drop l.group-index l.groups)) ≡ has_default (groups_of l.groups)
