use Rattle.std.proofs.Common.{◌≡◌, ◌<◌, ◌-◌, ℕ, length, drop, None}
use Rattle.std.specs.Prelude.{slice_index_or}
use Rattle.c_meaning.specs.CallGraph.{callee_at}
use Rattle.flow_graph.specs.Saying.{said}
use Rattle.null_calls_temporaries.specs.Callees.{callee_where}
use Rattle.null_calls_temporaries.proofs.callees.put_calls.Given as goal

abbrev pub invariant-loop-i : goal.invariant-loop-i
invariant-loop-i l = record {
  many : length l.callees ≡ length l.fn.callees;
  put : (s : ℕ) → s < length l.fn.callees → slice_index_or l.fn.callees s None ≡ None → callee_where (slice_index_or l.callees s None) ≡ callee_at s (said (drop (length l.ms - l.i) l.ms));
}
