use Rattle.std.proofs.Common.{◌+◌, length, refl, ◌∙◌, arith}
use Rattle.c_tree.specs.Functions.{defined}
use Rattle.c_tree.specs.View.{program_of, function_of}
use Rattle.flow_graph.specs.Types.{types_at}
use Rattle.flow_graph.proofs.ReachingLemmas.{map_get}
use Rattle.flow_graph.proofs.CallersLemmas.{body_none, bodies_more, bodies_end}
use Rattle.flow_graph.proofs.callers.add_bodies.Goals as goal

pub loop-f-init : goal.loop-f-init
loop-f-init c = record {
  many = refl;
  added = body_none (length c.args.callers.now.items) (types_at c.args.types.now) (defined (program_of c.args.program.now) + 24) (program_of c.args.program.now) c.args.callers.now.items;
}

pub loop-f-preserved : goal.loop-f-preserved
loop-f-preserved c = record {
  many = c.in_ok-add_calls.ensures.length ∙ c.loop-f.invariant.many;
  added = bodies_more (length c.args.callers.now.items) (length c.loop-f.callers.items) (types_at c.args.types.now) (defined (program_of c.args.program.now) + 24) (c.defined.result + 24) (program_of c.args.program.now) c.loop-f.f (function_of c.function.result.now) c.in_ok-ms.ms.items c.deref.result.now c.args.callers.now.items c.loop-f.callers.items c.add_calls.new.callers.items
      (map_get function_of c.args.program.now.functions c.loop-f.f c.function.result.now c.function.ensures) c.in_ok-ms.ensures c.deref.ensures.value (omega (arith, c.defined.ensures)) c.loop-f.invariant.many c.loop-f.invariant.added c.in_ok-add_calls.ensures.added;
}

pub returns-clause-added : goal.returns-clause-added
returns-clause-added c = bodies_end (length c.args.callers.now.items) (types_at c.args.types.now) (defined (program_of c.args.program.now) + 24) (program_of c.args.program.now) c.loop-f.f (defined (program_of c.args.program.now)) c.args.callers.now.items c.loop-f.callers.items (omega (arith, c.loop-f-test.false, c.loop-f.auto.f-end, c.defined-f-end.ensures)) c.loop-f.invariant.added
