use Rattle.std.proofs.Common.{◌+◌, get_or, refl, arith}
use Rattle.std.proofs.lemmas.List.{get_or_default}
use Rattle.flow_graph.specs.declared.shape.Shape.TheVariants.{Skip}
use Rattle.flow_graph.specs.Edges.{edges_in}
use Rattle.flow_graph.proofs.LayingLemmas.{parts_many, each_more, each_end}
use Rattle.flow_graph.proofs.laying.lay_to_each.Goals as goal

pub overflow_add-node : goal.overflow_add-node
overflow_add-node c = let k = parts_many c.args.parts.now in omega (arith, k, c.requires, c.loop-k.invariant.node, c.loop-k-test.true)

pub loop-k-preserved : goal.loop-k-preserved
loop-k-preserved c = let s = get_or c.args.parts.now c.loop-k._k Skip in record {
  laid = each_more c.args.parts.now c.loop-k._k s (edges_in c.args.into.now.items) (edges_in c.loop-k.into.items) (edges_in c.add_silent.new.into.items) c.args.a c.args.i c.loop-k.node (c.loop-k.node + 1) c.loop-k-test.true (get_or_default c.args.parts.now c.loop-k._k Skip s c.loop-k-test.true) refl c.loop-k.invariant.laid c.in_ok-add_silent.ensures;
  node = omega (arith, c.loop-k.invariant.node);
}

pub returns : goal.returns
returns c = each_end c.args.parts.now c.loop-k._k (edges_in c.args.into.now.items) (edges_in c.loop-k.into.items) c.args.a c.args.i c.loop-k.node c.loop-k-test.false c.loop-k.invariant.laid
