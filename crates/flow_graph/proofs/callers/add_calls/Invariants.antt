use Rattle.std.proofs.Common.{◌≡◌, length, take}
use Rattle.dm_base.specs.Adding.{Has, Gains}
use Rattle.flow_graph.specs.Saying.{mention_of}
use Rattle.flow_graph.specs.Types.{types_at}
use Rattle.flow_graph.specs.Callers.{HasCaller, IsCall}
use Rattle.flow_graph.proofs.callers.add_calls.Given as goal

abbrev pub invariant-loop-m : goal.invariant-loop-m
invariant-loop-m l = record {
  many : length l.callers.items ≡ length l.fn.callers.items;
  added : Gains (HasCaller l.fn.callers.items) (HasCaller l.callers.items) (λ e. Has (λ m. IsCall (length l.fn.callers.items) (types_at l.types) l.count l.by (mention_of m) e) (take l.m-index l.ms));
}
