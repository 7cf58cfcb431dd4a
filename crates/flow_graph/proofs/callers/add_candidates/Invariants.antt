use Rattle.std.proofs.Common.{◌≡◌, length, take}
use Rattle.dm_base.specs.Adding.{Has, Gains}
use Rattle.flow_graph.specs.Callers.{HasCaller, IsCandidate}
use Rattle.flow_graph.proofs.callers.add_candidates.Given as goal

abbrev pub invariant-loop-f : goal.invariant-loop-f
invariant-loop-f l = record {
  many : length l.callers.items ≡ length l.fn.callers.items;
  added : Gains (HasCaller l.fn.callers.items) (HasCaller l.callers.items) (λ e. Has (λ f. IsCandidate (length l.fn.callers.items) l.by f e) (take l.f-index l.functions));
}
