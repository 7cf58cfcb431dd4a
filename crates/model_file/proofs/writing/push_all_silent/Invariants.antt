use Rattle.std.proofs.Common.{◌≡◌, ◌<◌, ℕ, ◌++◌, take, flat_map, slice_index_or}
use Rattle.flow_model.specs.declared.records.SilentEdge.{SilentEdge}
use Rattle.model_file.specs.ModelText.{silent_line, IsSpelledSilent}
use Rattle.model_file.proofs.writing.push_all_silent.Given as goal

abbrev pub invariant-loop-edge : goal.invariant-loop-edge
invariant-loop-edge l = record {
  text : l.text.items ≡ l.fn.text.items ++ flat_map silent_line (take l.edge-index l.edges);
  small : (k : ℕ) (d : SilentEdge) → k < l.edge-index → IsSpelledSilent (slice_index_or l.edges k d);
}
