use Rattle.std.proofs.Common.{◌≡◌, ◌<◌, ℕ, ◌++◌, take, flat_map, slice_index_or}
use Rattle.flow_model.specs.declared.records.ModelFunction.{ModelFunction}
use Rattle.model_file.specs.ModelText.{function_line}
use Rattle.model_file.specs.Writing.{HasSmallNodes}
use Rattle.model_file.proofs.writing.push_functions.Given as goal

abbrev pub invariant-loop-one : goal.invariant-loop-one
invariant-loop-one l = record {
  text : l.text.items ≡ l.fn.text.items ++ flat_map function_line (take l.one-index l.functions);
  small : (k : ℕ) (d : ModelFunction) → k < l.one-index → HasSmallNodes (slice_index_or l.functions k d);
}
