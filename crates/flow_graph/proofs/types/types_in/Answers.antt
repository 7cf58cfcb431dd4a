use Rattle.std.proofs.Common.{[]}
use Rattle.flow_graph.specs.Saying.{mention_of}
use Rattle.flow_graph.specs.Types.{types_at, IsThrough}
use Rattle.dm_base.proofs.AddingLemmas.{adds_step, adds_end}
use Rattle.flow_graph.proofs.NamingLemmas.{types_all}
use Rattle.flow_graph.proofs.types.types_in.Goals as goal

pub loop-m-preserved : goal.loop-m-preserved
loop-m-preserved c = adds_step [] (types_at c.loop-m.types.items) (types_at c.add_type.new.types.items) (λ m t. IsThrough t (mention_of m)) c.args.ms.now c.loop-m.m-index c.m-item.result c.loop-m-test.true c.m-item.is c.loop-m.invariant c.in_ok-add_type.ensures

pub returns : goal.returns
returns c = types_all c.args.ms.now (types_at c.loop-m.types.items) (adds_end [] (types_at c.loop-m.types.items) (λ m t. IsThrough t (mention_of m)) c.args.ms.now c.loop-m.m-index c.loop-m-test.false c.loop-m.invariant)
