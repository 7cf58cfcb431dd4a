use Rattle.std.proofs.Common.{ℕ, ◌<◌, Contains, slice_index_or}
use Rattle.dm_base.specs.declared.event.Event.{Event}
use Rattle.flow_model.specs.declared.records.SysEdge.{SysEdge}
use Rattle.sys_table.specs.Table.{IsRecorded}
use Rattle.report.specs.Trials.{HasTrial}
use Rattle.report.proofs.trials.trials_of.Given as goal

abbrev pub invariant-loop-edge : goal.invariant-loop-edge
invariant-loop-edge l = record {
  recorded : (e : Event) → Contains l.trials.items e → IsRecorded e;
  complete : (k : ℕ) (d : SysEdge) → k < l.edge-index → HasTrial l.trials.items (slice_index_or l.model.sys k d);
}
