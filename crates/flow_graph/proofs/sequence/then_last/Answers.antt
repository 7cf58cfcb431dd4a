use Rattle.std.proofs.Common.{ap}
use Rattle.c_meaning.specs.ShapeOf.{in_turn}
use Rattle.flow_graph.proofs.Trees.{same_shape}
use Rattle.flow_graph.proofs.sequence.then_last.Goals as goal

pub returns : goal.returns
returns c = same_shape c.in_turn.result _ _ (ap in_turn c.in_ok-add.ensures) c.in_turn.ensures
