use Rattle.std.proofs.Common.{◌∙◌, ap}
use Rattle.c_meaning.specs.Shape.{End}
use Rattle.c_meaning.specs.ShapeOf.{before_parts, in_turn}
use Rattle.flow_graph.specs.View.{shape_of, parts_of}
use Rattle.flow_graph.specs.Joined.{joined}
use Rattle.flow_graph.proofs.SequenceLemmas.{before_joined}
use Rattle.flow_graph.proofs.Trees.{same_shape}
use Rattle.flow_graph.proofs.sequence.two.Goals as goal

pub returns : goal.returns
returns c =
    let S = shape_of c.args.first in
    let last = before_parts (shape_of c.args.second) End in
    same_shape c.then_last.result _ _
    (ap (λ ps. in_turn (joined ps last)) (c.in_ok-add.ensures ∙ ap (λ xs. joined (parts_of xs) (before_parts S End)) c.new-parts.ensures.items) ∙ ap in_turn (before_joined S last))
    c.then_last.ensures
