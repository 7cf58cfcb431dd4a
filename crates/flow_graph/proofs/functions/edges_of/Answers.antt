use Rattle.std.proofs.Common.{◌+◌, ◌^◌, refl, arith}
use Rattle.flow_graph.specs.View.{shapes_in}
use Rattle.flow_graph.specs.Edges.{edges_in}
use Rattle.c_meaning.specs.GraphOf.{edges_from}
use Rattle.flow_graph.proofs.FunctionsLemmas.{nodes_next, nodes_room, function_more, function_end}
use Rattle.flow_graph.proofs.functions.edges_of.Goals as goal

pub overflow_add-exit : goal.overflow_add-exit
overflow_add-exit c = let room = nodes_room c.args.shapes.now c.loop-shape.shape-index c.shape-item.result c.loop-shape.entry (2 ^ 32) c.loop-shape-test.true c.shape-item.is c.loop-shape.invariant.nodes c.requires in omega (arith, room)

pub overflow_add-fresh : goal.overflow_add-fresh
overflow_add-fresh c = let room = nodes_room c.args.shapes.now c.loop-shape.shape-index c.shape-item.result c.loop-shape.entry (2 ^ 32) c.loop-shape-test.true c.shape-item.is c.loop-shape.invariant.nodes c.requires in omega (arith, room)

pub lay-requires : goal.lay-requires
lay-requires c = nodes_room c.args.shapes.now c.loop-shape.shape-index c.shape-item.result c.loop-shape.entry (2 ^ 32) c.loop-shape-test.true c.shape-item.is c.loop-shape.invariant.nodes c.requires

pub loop-shape-preserved : goal.loop-shape-preserved
loop-shape-preserved c = record {
  laid = function_more c.args.shapes.now c.loop-shape.shape-index c.shape-item.result (edges_in c.loop-shape.edges.items) (edges_in c.lay.new.into.items) (edges_from 0 (shapes_in c.args.shapes.now)) c.loop-shape.entry (c.loop-shape.entry + 1) (c.loop-shape.entry + 2) c.in_ok-entry.entry c.loop-shape-test.true c.shape-item.is refl refl c.loop-shape.invariant.laid c.in_ok-entry.ensures.laid c.in_ok-entry.ensures.next;
  nodes = nodes_next c.args.shapes.now c.loop-shape.shape-index c.shape-item.result c.loop-shape.entry c.in_ok-entry.entry c.loop-shape-test.true c.shape-item.is c.in_ok-entry.ensures.next c.loop-shape.invariant.nodes;
}

pub returns : goal.returns
returns c = function_end c.args.shapes.now c.loop-shape.shape-index c.loop-shape.entry (edges_in c.loop-shape.edges.items) (edges_from 0 (shapes_in c.args.shapes.now)) c.loop-shape-test.false c.loop-shape.invariant.laid
