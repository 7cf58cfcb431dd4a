use Rattle.std.proofs.Common.{◌≡◌, ◌<◌, ℕ, length, take, None}
use Rattle.std.specs.Prelude.{slice_index_or}
use Rattle.c_meaning.specs.CallGraph.{callee_at}
use Rattle.flow_graph.specs.Saying.{said}
use Rattle.flow_graph.specs.Types.{types_at}
use Rattle.flow_graph.specs.CallGraphPlaces.{placed}
use Rattle.flow_graph.proofs.call_sites.put_calls.Given as goal

abbrev pub invariant-loop-m : goal.invariant-loop-m
invariant-loop-m l = record {
  many : length l.places ≡ length l.fn.places;
  put : (s : ℕ) → s < length l.fn.places → slice_index_or l.fn.places s None ≡ None → slice_index_or l.places s None ≡ placed (types_at l.types) (callee_at s (said (take l.m-index l.ms)));
}
