use Rattle.std.proofs.Common.{◌≡◌, length}
use Rattle.flow_graph.specs.Types.{items_of}
use Rattle.dm_base.specs.Adding.{Gains}
use Rattle.flow_graph.specs.Callers.{HasCaller, IsCandidateBelow}
use Rattle.flow_graph.proofs.callers.add_lists.Given as goal

abbrev pub invariant-loop-k : goal.invariant-loop-k
invariant-loop-k l = record {
  many : length l.callers.items ≡ length l.fn.callers.items;
  added : Gains (HasCaller l.fn.callers.items) (HasCaller l.callers.items) (IsCandidateBelow (length l.fn.callers.items) l.count (items_of l.lists) l.k);
}
