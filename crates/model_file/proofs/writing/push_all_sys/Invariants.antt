use Rattle.std.proofs.Common.{◌≡◌, ◌<◌, ℕ, ◌++◌, take, flat_map, slice_index_or}
use Rattle.flow_model.specs.declared.records.SysEdge.{SysEdge}
use Rattle.model_file.specs.declared.version.ModelVersion.TheVariants.{Two}
use Rattle.model_file.specs.ModelText.{sys_line}
use Rattle.model_file.specs.Writing.{IsSmallSys}
use Rattle.model_file.proofs.writing.push_all_sys.Given as goal

abbrev pub invariant-loop-edge : goal.invariant-loop-edge
invariant-loop-edge l = record {
  text : l.text.items ≡ l.fn.text.items ++ flat_map (sys_line Two) (take l.edge-index l.edges);
  small : (k : ℕ) (d : SysEdge) → k < l.edge-index → IsSmallSys (slice_index_or l.edges k d);
}
