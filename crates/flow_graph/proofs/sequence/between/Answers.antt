use Rattle.std.proofs.Common.{◌∙◌, ap}
use Rattle.c_meaning.specs.ShapeOf.{before_parts, in_turn}
use Rattle.flow_graph.specs.View.{shape_of}
use Rattle.flow_graph.proofs.Trees.{same_shape}
use Rattle.flow_graph.proofs.sequence.between.Goals as goal

pub returns : goal.returns
returns c = same_shape c.in_turn.result _ _ (ap in_turn (c.in_ok-put_before.ensures ∙ ap (before_parts (shape_of c.args.first)) c.in_ok-add.ensures)) c.in_turn.ensures
