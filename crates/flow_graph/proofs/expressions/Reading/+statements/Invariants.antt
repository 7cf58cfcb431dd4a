use Rattle.std.proofs.Common.{◌≡◌, drop}
use Rattle.c_meaning.specs.ShapeOf.{without_skips}
use Rattle.flow_graph.specs.View.{parts_of}
use Rattle.flow_graph.specs.Joined.{joined}
use Rattle.flow_graph.proofs.TakenParts.{each, stmt_shape, group_shape}
use Rattle.flow_graph.proofs.expressions.Reading.+statements.Given as goal

abbrev pub invariant-statements-loop-s : goal.invariant-statements-loop-s
invariant-statements-loop-s l =
    joined (parts_of l.parts.items) (without_skips (each (stmt_shape l.self.defined l.self.marks.now) (drop l.s-index l.ss))) ≡ without_skips (each (stmt_shape l.self.defined l.self.marks.now) l.ss)

abbrev pub invariant-groups-loop-group : goal.invariant-groups-loop-group
invariant-groups-loop-group l =
    joined (parts_of l.shapes.items) (each (group_shape l.self.defined l.self.marks.now) (drop l.group-index l.groups)) ≡ each (group_shape l.self.defined l.self.marks.now) l.groups
