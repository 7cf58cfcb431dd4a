use Rattle.std.proofs.Common.{◌∙◌, ap}
use Rattle.c_tree.specs.View.{inits_of}
use Rattle.c_meaning.specs.ShapeOf.{without_skips, in_turn, seq}
use Rattle.flow_graph.specs.View.{parts_of}
use Rattle.flow_graph.specs.Sited.{inits_at}
use Rattle.flow_graph.proofs.TakenParts.{each, init_shape, inits_each, part_more, parts_end}
use Rattle.flow_graph.proofs.Trees.{same_shape}
use Rattle.flow_graph.proofs.expressions.Reading.initialisers.Goals as goal

pub loop-init-preserved : goal.loop-init-preserved
loop-init-preserved c =
    let f = init_shape c.args.self.now.defined c.args.self.now.marks.now in
    part_more f c.args.inits.now c.loop-init.init-index c.init-item.result c.loop-init.parts.items c.add.new.into.items c.in_ok-part.part (without_skips (each f c.args.inits.now)) c.loop-init-test.true c.init-item.is c.loop-init.invariant c.in_ok-part.ensures c.in_ok-add.ensures

pub returns : goal.returns
returns c =
    let f = init_shape c.args.self.now.defined c.args.self.now.marks.now in
    same_shape c.in_turn.result (in_turn (parts_of c.loop-init.parts.items)) (seq (inits_at c.args.self.now.defined c.args.self.now.marks.now (inits_of c.args.inits.now)))
    (ap in_turn (parts_end f c.args.inits.now c.loop-init.init-index (parts_of c.loop-init.parts.items) (without_skips (each f c.args.inits.now)) c.loop-init-test.false c.loop-init.invariant) ∙ ap seq (inits_each c.args.self.now.defined c.args.self.now.marks.now c.args.inits.now))
    c.in_turn.ensures
