use Rattle.std.proofs.Common.{◌≡◌, ◌<◌, ℕ, ◌++◌, take, flat_map, slice_index_or}
use Rattle.flow_model.specs.Call.{Call}
use Rattle.model_file.specs.ModelText.{call_line}
use Rattle.model_file.specs.Writing.{IsSmallCall}
use Rattle.model_file.proofs.writing.push_calls.Given as goal

abbrev pub invariant-loop-call : goal.invariant-loop-call
invariant-loop-call l = record {
  text : l.text.items ≡ l.fn.text.items ++ flat_map call_line (take l.call-index l.calls);
  small : (k : ℕ) (d : Call) → k < l.call-index → IsSmallCall (slice_index_or l.calls k d);
}
