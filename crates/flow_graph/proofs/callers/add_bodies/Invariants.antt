use Rattle.std.proofs.Common.{◌≡◌, ◌+◌, length}
use Rattle.c_tree.specs.Functions.{defined}
use Rattle.c_tree.specs.View.{program_of}
use Rattle.flow_graph.specs.Types.{types_at}
use Rattle.dm_base.specs.Adding.{Gains}
use Rattle.flow_graph.specs.Callers.{HasCaller, IsCallBelow}
use Rattle.flow_graph.proofs.callers.add_bodies.Given as goal

abbrev pub invariant-loop-f : goal.invariant-loop-f
invariant-loop-f l = record {
  many : length l.callers.items ≡ length l.fn.callers.items;
  added : Gains (HasCaller l.fn.callers.items) (HasCaller l.callers.items) (IsCallBelow (length l.fn.callers.items) (types_at l.types) (defined (program_of l.program) + 24) (program_of l.program) l.f);
}
