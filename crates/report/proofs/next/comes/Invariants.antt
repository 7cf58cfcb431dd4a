use Rattle.std.proofs.Common.{ℕ, ◌<◌, List, [], ◌∷◌, ◌++◌, slice_index_or}
use Rattle.dm_base.specs.declared.event.Event.{Event}
use Rattle.flow_model.specs.Verdict.{IsAccepted}
use Rattle.report.specs.Trials.{IsNamed, KeepsPool}
use Rattle.report.proofs.next.comes.Given as goal

abbrev pub invariant-loop-event : goal.invariant-loop-event
invariant-loop-event g l = record {
  frame : KeepsPool g.M.Monitor.is_pool g.M.Monitor.stands g.M.Monitor.noted l.model l.fn.pool l.pool;
  none : (k : ℕ) (h : List Event) → g.M.Monitor.stands l.monitor l.fn.pool l.model k h → (i : ℕ) (d : Event) → i < l.event-index → IsNamed l.number (slice_index_or l.trials i d) → IsAccepted g.M.Monitor.WHICH l.model k (h ++ slice_index_or l.trials i d ∷ []) → ⊥;
}
