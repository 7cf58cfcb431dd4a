use Rattle.std.proofs.Common.{◌≡◌, drop}
use Rattle.c_meaning.specs.ShapeOf.{without_skips}
use Rattle.flow_graph.specs.View.{parts_of}
use Rattle.flow_graph.specs.Joined.{joined}
use Rattle.flow_graph.proofs.TakenParts.{each, init_shape}
use Rattle.flow_graph.proofs.expressions.Reading.initialisers.Given as goal

abbrev pub invariant-loop-init : goal.invariant-loop-init
invariant-loop-init l =
    joined (parts_of l.parts.items) (without_skips (each (init_shape l.self.defined l.self.marks.now) (drop l.init-index l.inits))) ≡ without_skips (each (init_shape l.self.defined l.self.marks.now) l.inits)
