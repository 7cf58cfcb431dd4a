use Rattle.std.proofs.Common.{◌≡◌, drop}
use Rattle.c_meaning.specs.ShapeOf.{without_skips}
use Rattle.flow_graph.specs.View.{parts_of}
use Rattle.flow_graph.specs.Joined.{joined}
use Rattle.flow_graph.proofs.TakenParts.{each, expr_shape}
use Rattle.flow_graph.proofs.expressions.Reading.+expressions.Given as goal

abbrev pub invariant-expressions-loop-e : goal.invariant-expressions-loop-e
invariant-expressions-loop-e l =
    joined (parts_of l.parts.items) (without_skips (each (expr_shape l.self.defined l.self.marks.now) (drop l.e-index l.es))) ≡ without_skips (each (expr_shape l.self.defined l.self.marks.now) l.es)
