use Rattle.std.proofs.Common.{ap}
use Rattle.c_meaning.specs.ShapeOf.{seq_two}
use Rattle.flow_graph.specs.View.{shape_of}
use Rattle.flow_graph.proofs.Trees.{same_shape}
use Rattle.flow_graph.proofs.sequence.for_of.Goals as goal

pub returns : goal.returns
returns c = same_shape c.two.result _ _ (ap (seq_two (shape_of c.args.first)) c.in_ok-rounds.ensures) c.two.ensures
