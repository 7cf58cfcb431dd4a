use Rattle.std.proofs.Common.{[], take}
use Rattle.dm_base.specs.Adding.{Has, Adds}
use Rattle.flow_graph.specs.Saying.{mention_of}
use Rattle.flow_graph.specs.Types.{types_at, IsThrough}
use Rattle.flow_graph.proofs.types.types_in.Given as goal

abbrev pub invariant-loop-m : goal.invariant-loop-m
invariant-loop-m l = Adds [] (types_at l.types.items) (λ t. Has (λ m. IsThrough t (mention_of m)) (take l.m-index l.ms))
