use Rattle.std.proofs.Common.{◌∙◌, arith, refl}
use Rattle.flow_graph.specs.Types.{types_at}
use Rattle.flow_graph.proofs.PlaceLemmas.{places_more}
use Rattle.flow_graph.proofs.call_sites.put_calls.Goals as goal

pub loop-m-init : goal.loop-m-init
loop-m-init c = record { many = refl; put = λ s lt none. none }

pub loop-m-preserved : goal.loop-m-preserved
loop-m-preserved c = record {
  many = c.put_call.auto.places ∙ c.loop-m.invariant.many;
  put = λ s lt none. places_more (types_at c.args.types.now) c.args.ms.now c.loop-m.m-index c.m-item.result s _ _ c.loop-m-test.true c.m-item.is (c.loop-m.invariant.put s lt none) (c.put_call.ensures s (let k = c.loop-m.invariant.many in omega (arith, lt, k)));
}
